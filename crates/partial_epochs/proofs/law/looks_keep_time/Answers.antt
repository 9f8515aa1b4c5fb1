use Rattle.partial_epochs.proofs.Time.{looks_keep_time}
use Rattle.partial_epochs.proofs.law.looks_keep_time.Goals as goal

pub returns : goal.returns
returns c = looks_keep_time
