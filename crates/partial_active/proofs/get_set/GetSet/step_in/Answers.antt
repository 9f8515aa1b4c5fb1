use Rattle.std.proofs.Common.{rules, tests}
use Rattle.partial_active.proofs.get_set.GetSet.step_in.Goals as goal

pub returns-else-is_there : goal.returns-else-is_there
returns-else-is_there c = search (tests, rules)
