use Rattle.partial_epochs.proofs.Time.{entering_words_keep_time}
use Rattle.partial_epochs.proofs.law.entering_words_keep_time.Goals as goal

pub returns : goal.returns
returns c = entering_words_keep_time
