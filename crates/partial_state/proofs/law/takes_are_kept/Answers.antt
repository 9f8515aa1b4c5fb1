use Rattle.partial_state.proofs.SpareLaws.{takes_are_kept}
use Rattle.partial_state.proofs.law.takes_are_kept.Goals as goal

pub returns : goal.returns
returns c = takes_are_kept
