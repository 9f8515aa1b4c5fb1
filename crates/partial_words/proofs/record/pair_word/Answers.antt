use Rattle.partial_words.proofs.{Common.◌∙◌, RecordLemmas.{word_even, word_odd}}
use Rattle.partial_words.proofs.record.pair_word.Goals as goal

pub returns-then-k-eq0 : goal.returns-then-k-eq0
returns-then-k-eq0 c =
    c.from.ensures ∙ word_even c.args.pairs.now c.args.k (0, 0) c.requires c.if-k-eq0.true

pub returns-else-k-eq0 : goal.returns-else-k-eq0
returns-else-k-eq0 c = word_odd c.args.pairs.now c.args.k (0, 0) c.requires c.if-k-eq0.false
