use Rattle.partial_epochs.proofs.FreeArenas.{meetings_keep_tally}
use Rattle.partial_epochs.proofs.law.meetings_keep_tally.Goals as goal

pub returns : goal.returns
returns c = meetings_keep_tally
