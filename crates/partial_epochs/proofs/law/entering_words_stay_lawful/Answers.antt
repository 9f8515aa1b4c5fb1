use Rattle.partial_epochs.proofs.Entering.{entering_words_stay_lawful}
use Rattle.partial_epochs.proofs.law.entering_words_stay_lawful.Goals as goal

pub returns : goal.returns
returns c = entering_words_stay_lawful
