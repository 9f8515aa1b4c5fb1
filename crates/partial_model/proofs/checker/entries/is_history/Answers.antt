use Rattle.std.proofs.Common.{rules, tests}
use Rattle.partial_model.proofs.checker.entries.is_history.Goals as goal

pub returns-then-are_distinct : goal.returns-then-are_distinct
returns-then-are_distinct c = search (tests, rules)
