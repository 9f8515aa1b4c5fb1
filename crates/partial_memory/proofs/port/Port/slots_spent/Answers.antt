use Rattle.std.proofs.Common.{rules, tests}
use Rattle.partial_memory.proofs.port.Port.slots_spent.Goals as goal

pub returns : goal.returns
returns c = search (tests, rules)
