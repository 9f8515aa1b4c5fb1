use Rattle.std.proofs.Common.{rules, tests}
use Rattle.partial_model.proofs.checker.passes_behind.Goals as goal

pub returns-then-notes_are_legal : goal.returns-then-notes_are_legal
returns-then-notes_are_legal c = search (tests, rules)
