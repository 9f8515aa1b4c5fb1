use Rattle.partial_epochs.proofs.Time.{puts_keep_time}
use Rattle.partial_epochs.proofs.law.puts_keep_time.Goals as goal

pub returns : goal.returns
returns c = puts_keep_time
