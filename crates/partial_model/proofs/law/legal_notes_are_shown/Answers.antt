use Rattle.partial_model.proofs.NotesLemmas.{legal_notes_are_shown}
use Rattle.partial_model.proofs.law.legal_notes_are_shown.Goals as goal

pub returns : goal.returns
returns c = legal_notes_are_shown
