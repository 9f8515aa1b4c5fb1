use Rattle.partial_memory.proofs.Reopening.{closed_memories_continue}
use Rattle.partial_memory.proofs.law.closed_memories_continue.Goals as goal

pub returns : goal.returns
returns c = closed_memories_continue
