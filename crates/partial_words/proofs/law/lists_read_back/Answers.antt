use Rattle.partial_words.proofs.BlockLemmas.{list_reads_back}
use Rattle.partial_words.proofs.law.lists_read_back.Goals as goal

pub returns : goal.returns
returns c = list_reads_back
