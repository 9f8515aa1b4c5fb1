use Rattle.partial_state.proofs.MarkLaws.{drops_are_kept}
use Rattle.partial_state.proofs.law.drops_are_kept.Goals as goal

pub returns : goal.returns
returns c = drops_are_kept
