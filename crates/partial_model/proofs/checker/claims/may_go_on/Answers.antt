use Rattle.std.proofs.Common.{rules, tests}
use Rattle.partial_model.proofs.checker.claims.may_go_on.Goals as goal

pub returns-then-is_none : goal.returns-then-is_none
returns-then-is_none c = search (tests, rules)
