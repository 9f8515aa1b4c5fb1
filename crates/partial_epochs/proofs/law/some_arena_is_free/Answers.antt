use Rattle.partial_epochs.proofs.InUse.{some_arena_is_free}
use Rattle.partial_epochs.proofs.law.some_arena_is_free.Goals as goal

pub returns : goal.returns
returns c = some_arena_is_free
