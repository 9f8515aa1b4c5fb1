use Rattle.partial_words.proofs.RecordLemmas.{reads_back}
use Rattle.partial_words.proofs.law.records_read_back.Goals as goal

pub returns : goal.returns
returns c = reads_back
