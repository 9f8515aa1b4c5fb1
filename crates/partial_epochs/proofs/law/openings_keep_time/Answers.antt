use Rattle.partial_epochs.proofs.Time.{openings_keep_time}
use Rattle.partial_epochs.proofs.law.openings_keep_time.Goals as goal

pub returns : goal.returns
returns c = openings_keep_time
