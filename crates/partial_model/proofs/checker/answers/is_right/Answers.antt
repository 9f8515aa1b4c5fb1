use Rattle.std.proofs.Common.{rules, tests}
use Rattle.partial_model.proofs.checker.answers.is_right.Goals as goal

pub returns-then-wrote : goal.returns-then-wrote
returns-then-wrote c = search (tests, rules)
