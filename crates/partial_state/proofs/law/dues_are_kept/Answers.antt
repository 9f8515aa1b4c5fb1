use Rattle.partial_state.proofs.MarkLaws.{dues_are_kept}
use Rattle.partial_state.proofs.law.dues_are_kept.Goals as goal

pub returns : goal.returns
returns c = dues_are_kept
