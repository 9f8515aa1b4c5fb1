use Rattle.partial_epochs.proofs.Sights.{arrivals_keep_notes}
use Rattle.partial_epochs.proofs.law.arrivals_keep_notes.Goals as goal

pub returns : goal.returns
returns c = arrivals_keep_notes
