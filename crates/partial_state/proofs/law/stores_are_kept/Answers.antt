use Rattle.partial_state.proofs.BlockLaws.{stores_are_kept}
use Rattle.partial_state.proofs.law.stores_are_kept.Goals as goal

pub returns : goal.returns
returns c = stores_are_kept
