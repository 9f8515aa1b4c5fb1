use Rattle.partial_state.proofs.BlockLaws.{claims_are_kept}
use Rattle.partial_state.proofs.law.claims_are_kept.Goals as goal

pub returns : goal.returns
returns c = claims_are_kept
