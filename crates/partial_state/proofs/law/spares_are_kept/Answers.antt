use Rattle.partial_state.proofs.SpareLaws.{spares_are_kept}
use Rattle.partial_state.proofs.law.spares_are_kept.Goals as goal

pub returns : goal.returns
returns c = spares_are_kept
