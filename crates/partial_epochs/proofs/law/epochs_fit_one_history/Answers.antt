use Rattle.partial_epochs.proofs.OneHistory.{epochs_fit_one_history}
use Rattle.partial_epochs.proofs.law.epochs_fit_one_history.Goals as goal

pub returns : goal.returns
returns c = epochs_fit_one_history
