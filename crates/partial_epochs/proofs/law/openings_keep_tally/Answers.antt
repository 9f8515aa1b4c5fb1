use Rattle.partial_epochs.proofs.FreeArenas.{openings_keep_tally}
use Rattle.partial_epochs.proofs.law.openings_keep_tally.Goals as goal

pub returns : goal.returns
returns c = openings_keep_tally
