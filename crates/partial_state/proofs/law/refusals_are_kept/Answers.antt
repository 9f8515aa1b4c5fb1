use Rattle.partial_state.proofs.MarkLaws.{refusals_are_kept}
use Rattle.partial_state.proofs.law.refusals_are_kept.Goals as goal

pub returns : goal.returns
returns c = refusals_are_kept
