use Rattle.std.proofs.Common.{rules, tests}
use Rattle.partial_embedded.proofs.embedded.Embedded.due_word.Goals as goal

pub returns-in-Value-clause-due : goal.returns-in-Value-clause-due
returns-in-Value-clause-due c = search (tests, rules)
