use Rattle.partial_epochs.proofs.Continue.{epochs_continue}
use Rattle.partial_epochs.proofs.law.epochs_continue.Goals as goal

pub returns : goal.returns
returns c = epochs_continue
