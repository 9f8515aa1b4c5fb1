use Rattle.partial_epochs.proofs.Time.{asides_keep_time}
use Rattle.partial_epochs.proofs.law.asides_keep_time.Goals as goal

pub returns : goal.returns
returns c = asides_keep_time
