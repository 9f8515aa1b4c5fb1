use Rattle.partial_epochs.proofs.Last.{last_words_are_final}
use Rattle.partial_epochs.proofs.law.last_words_are_final.Goals as goal

pub returns : goal.returns
returns c = last_words_are_final
