use Rattle.std.proofs.Common.{rules, tests}
use Rattle.partial_machine.proofs.machine.Core.record_size.Goals as goal

pub returns-in-Some-clause-value : goal.returns-in-Some-clause-value
returns-in-Some-clause-value c = search (tests, rules)
