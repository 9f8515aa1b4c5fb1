use Rattle.partial_words.proofs.ChainLemmas.{last_entries_head_chains}
use Rattle.partial_words.proofs.law.last_entries_head_chains.Goals as goal

pub returns : goal.returns
returns c = last_entries_head_chains
