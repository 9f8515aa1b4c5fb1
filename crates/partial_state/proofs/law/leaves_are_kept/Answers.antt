use Rattle.partial_state.proofs.SlotLaws.{leaves_are_kept}
use Rattle.partial_state.proofs.law.leaves_are_kept.Goals as goal

pub returns : goal.returns
returns c = leaves_are_kept
