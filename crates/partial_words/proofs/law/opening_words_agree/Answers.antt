use Rattle.partial_words.proofs.LayoutLemmas.{opening_agrees}
use Rattle.partial_words.proofs.law.opening_words_agree.Goals as goal

pub returns : goal.returns
returns c = opening_agrees
