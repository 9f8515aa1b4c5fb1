use Rattle.std.proofs.Common.{rules, tests}
use Rattle.partial_model.proofs.checker.times.lies_between.Goals as goal

pub returns-then-began-place : goal.returns-then-began-place
returns-then-began-place c = search (tests, rules)
