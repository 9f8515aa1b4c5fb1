use Rattle.partial_epochs.proofs.NotesStay.{notes_stay_lawful}
use Rattle.partial_epochs.proofs.law.notes_stay_lawful.Goals as goal

pub returns : goal.returns
returns c = notes_stay_lawful
