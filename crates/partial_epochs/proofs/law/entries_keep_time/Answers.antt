use Rattle.partial_epochs.proofs.Time.{entries_keep_time}
use Rattle.partial_epochs.proofs.law.entries_keep_time.Goals as goal

pub returns : goal.returns
returns c = entries_keep_time
