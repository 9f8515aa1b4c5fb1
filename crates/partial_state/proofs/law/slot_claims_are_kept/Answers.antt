use Rattle.partial_state.proofs.SlotLaws.{slot_claims_are_kept}
use Rattle.partial_state.proofs.law.slot_claims_are_kept.Goals as goal

pub returns : goal.returns
returns c = slot_claims_are_kept
