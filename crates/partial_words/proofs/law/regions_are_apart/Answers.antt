use Rattle.partial_words.proofs.LayoutLemmas.{regions_apart}
use Rattle.partial_words.proofs.law.regions_are_apart.Goals as goal

pub returns : goal.returns
returns c = regions_apart
