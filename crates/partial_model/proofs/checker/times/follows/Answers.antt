use Rattle.std.proofs.Common.{rules, tests}
use Rattle.partial_model.proofs.checker.times.follows.Goals as goal

pub returns-then-from : goal.returns-then-from
returns-then-from c = search (tests, rules)
