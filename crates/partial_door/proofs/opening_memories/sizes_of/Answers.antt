use Rattle.std.proofs.Common.{rules, tests}
use Rattle.partial_door.proofs.opening_memories.sizes_of.Goals as goal

pub returns-in-Ok-clause-ok : goal.returns-in-Ok-clause-ok
returns-in-Ok-clause-ok c = search (tests, rules)
