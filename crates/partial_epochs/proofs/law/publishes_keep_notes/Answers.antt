use Rattle.partial_epochs.proofs.Sights.{publishes_keep_notes}
use Rattle.partial_epochs.proofs.law.publishes_keep_notes.Goals as goal

pub returns : goal.returns
returns c = publishes_keep_notes
