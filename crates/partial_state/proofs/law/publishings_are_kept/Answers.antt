use Rattle.partial_state.proofs.BlockLaws.{publishings_are_kept}
use Rattle.partial_state.proofs.law.publishings_are_kept.Goals as goal

pub returns : goal.returns
returns c = publishings_are_kept
