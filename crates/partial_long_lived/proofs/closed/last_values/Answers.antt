use Rattle.partial_long_lived.proofs.{Common.{rules, ℕ, ◌≡◌, ◌+◌, ◌<◌, ap, sym, ◌∙◌, subst, arith, some, get_elem?, slots_items, bare, shape_plan, value_now, slice_index}, LastValues.{value_at, value_more}}
use Rattle.partial_long_lived.proofs.closed.last_values.Goals as goal

pub word-value-requires : goal.word-value-requires
word-value-requires c =
    let words = slots_items c.args.words.now.words in
    let there = subst (λ i. get_elem? words (c.base-base.result + i) ≡ some c.word-record.result) c.from.ensures c.word-record.ensures in
    let at = ap (λ n. c.base-base.result + n) c.value_word.ensures ∙ value_at (shape_plan c.args.shape.now bare) words _ _ _ c.loop-j.invariant.base there in
    let low = c.requires.last.values c.loop-j.j (subst (λ n. c.loop-j.j < n) c.m-j-end.ensures.value c.loop-j-test.true) in
    let same = c.requires.count in
    (omega (arith, at, low, same), c.requires.full.0)

pub loop-j-preserved : goal.loop-j-preserved
loop-j-preserved c =
    let words = slots_items c.args.words.now.words in
    let there = subst (λ i. get_elem? words (c.base-base.result + i) ≡ some c.word-record.result) c.from.ensures c.word-record.ensures in
    let more = value_more (shape_plan c.args.shape.now bare) words _ _ _ c.loop-j.invariant.base there _ _ _ c.value_word.ensures c.word-value.ensures c.loop-j.invariant.count
    c.loop-j.invariant.each in
    record {
      base = c.loop-j.invariant.base;
      count = search rules;
      each = subst (λ l. (k : ℕ) → k < c.loop-j.j + 1 → slice_index l k ≡ slice_index words (value_now (shape_plan c.args.shape.now bare) words k)) (sym c.push_reserved.ensures.items) more;
      room = search rules;
    }
