use Rattle.partial_words.proofs.ChainLemmas.{records_within}
use Rattle.partial_words.proofs.law.records_lie_within.Goals as goal

pub returns : goal.returns
returns c = records_within
