use Rattle.partial_epochs.proofs.Collects.{epochs_are_histories}
use Rattle.partial_epochs.proofs.law.epochs_are_histories.Goals as goal

pub returns : goal.returns
returns c = epochs_are_histories
