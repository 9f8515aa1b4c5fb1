use Rattle.std.proofs.Common.{rules, tests}
use Rattle.partial_memory.proofs.port.Port.number.Goals as goal

pub returns-clause-value : goal.returns-clause-value
returns-clause-value c = search (tests, rules)
