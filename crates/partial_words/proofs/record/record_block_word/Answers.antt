use Rattle.partial_words.proofs.{Common.arith, RecordLemmas.block_tail}
use Rattle.partial_words.proofs.record.record_block_word.Goals as goal

pub pair_word-requires : goal.pair_word-requires
pair_word-requires c =
    block_tail c.args.prev c.args.value c.args.view c.args.k c.args.pairs.now (omega arith) c.requires
