use Rattle.partial_words.proofs.BlockLemmas.{announcement_reads_back}
use Rattle.partial_words.proofs.law.announcements_read_back.Goals as goal

pub returns : goal.returns
returns c = announcement_reads_back
