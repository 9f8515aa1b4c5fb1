use Rattle.std.proofs.Common.{rules, tests}
use Rattle.partial_machine.proofs.machine.Core.record_word.Goals as goal

pub returns-then-k-value_word : goal.returns-then-k-value_word
returns-then-k-value_word c = search (tests, rules)
