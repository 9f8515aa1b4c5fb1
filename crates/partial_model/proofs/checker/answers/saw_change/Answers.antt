use Rattle.std.proofs.Common.{rules, tests}
use Rattle.partial_model.proofs.checker.answers.saw_change.Goals as goal

pub returns-then-has_stamp : goal.returns-then-has_stamp
returns-then-has_stamp c = search (tests, rules)
