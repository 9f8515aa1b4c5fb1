use Rattle.partial_epochs.proofs.Time.{publishes_keep_time}
use Rattle.partial_epochs.proofs.law.publishes_keep_time.Goals as goal

pub returns : goal.returns
returns c = publishes_keep_time
