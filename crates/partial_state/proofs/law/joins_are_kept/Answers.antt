use Rattle.partial_state.proofs.SlotLaws.{joins_are_kept}
use Rattle.partial_state.proofs.law.joins_are_kept.Goals as goal

pub returns : goal.returns
returns c = joins_are_kept
