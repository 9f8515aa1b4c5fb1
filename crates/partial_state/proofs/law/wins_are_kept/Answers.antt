use Rattle.partial_state.proofs.WinLaw.{wins_are_kept}
use Rattle.partial_state.proofs.law.wins_are_kept.Goals as goal

pub returns : goal.returns
returns c = wins_are_kept
