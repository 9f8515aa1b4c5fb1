use Rattle.partial_epochs.proofs.Time.{loaded_entering_words_keep_time}
use Rattle.partial_epochs.proofs.law.loaded_entering_words_keep_time.Goals as goal

pub returns : goal.returns
returns c = loaded_entering_words_keep_time
