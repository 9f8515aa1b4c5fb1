use Rattle.partial_epochs.proofs.Time.{arrivals_keep_time}
use Rattle.partial_epochs.proofs.law.arrivals_keep_time.Goals as goal

pub returns : goal.returns
returns c = arrivals_keep_time
