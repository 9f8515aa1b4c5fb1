use Rattle.std.proofs.Common.{rules, tests}
use Rattle.partial_model.proofs.history.stamp_at.Goals as goal

pub returns-in-None : goal.returns-in-None
returns-in-None c = search (tests, rules)
