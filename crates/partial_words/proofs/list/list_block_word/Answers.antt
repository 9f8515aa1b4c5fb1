use Rattle.partial_words.proofs.{Common.{ℕ, ap, ◌∙◌, arith}, BlockLemmas.{interval_within, interval_word_even, interval_word_odd}}
use Rattle.partial_words.proofs.list.list_block_word.Goals as goal

pub get-lowest-requires : goal.get-lowest-requires
get-lowest-requires c =
    omega (arith, interval_within c.args.intervals.now.list c.args.k c.requires c.if-k-eq0.false)

pub returns-then-k-eq0-2 : goal.returns-then-k-eq0-2
returns-then-k-eq0-2 c =
    c.from.ensures ∙ ap (λ (r : ℕ × ℕ). r.0) c.get-lowest.ensures.interval ∙ interval_word_even c.args.intervals.now.list c.args.k c.requires c.if-k-eq0.false c.if-k-eq0-2.true

pub returns-else-k-eq0-2 : goal.returns-else-k-eq0-2
returns-else-k-eq0-2 c =
    c.from-else-k-eq0-2.ensures ∙ ap (λ (r : ℕ × ℕ). r.1) c.get-lowest.ensures.interval ∙ interval_word_odd c.args.intervals.now.list c.args.k c.requires c.if-k-eq0.false c.if-k-eq0-2.false
