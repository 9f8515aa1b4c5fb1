use Rattle.partial_epochs.proofs.Taking.{entering_words_are_loaded}
use Rattle.partial_epochs.proofs.law.entering_words_are_loaded.Goals as goal

pub returns : goal.returns
returns c = entering_words_are_loaded
