use Rattle.partial_long_lived.proofs.Common.{rules, ℕ, List, ◌≡◌, ◌<◌, ◌+◌, length, sym, ◌∙◌, subst, inl, inr, arith, Plan, base, slice_index, slice_set, get_or-set_other, get_or-set_same, length-set, eqb_tells, shape_plan, pool_base, first_free, opening_word, slot_word, bases_up, HasClearRecords, initial_record, prev_word, view_word}
use Rattle.partial_long_lived.proofs.long_lived.opening_words.Goals as goal

pub returns : goal.returns
returns c =
    let e : Plan = shape_plan c.args.shape.now (record { values = c.args.initial.now; first = pool_base c.args.shape.now.sizes }) in
    let inv = c.loop-j.invariant in
    let clear : (x l : ℕ) → 0 < x → x < c.args.shape.now.arenas → l < c.args.shape.now.sizes.slots → slice_index c.loop-j.words.items (base e x + slot_word c.args.shape.now.sizes l) ≡ 0 =
    λ x l some inside low.
    let up = bases_up e 0 x some in
    let first = c.base-base.ensures in
    inv.behind (base e x + slot_word c.args.shape.now.sizes l) (omega (arith, up, first)) in
    let records : (x : ℕ) → 0 < x → x < c.args.shape.now.arenas → HasClearRecords e c.loop-j.words.items x =
    λ x some inside j low.
    let up = bases_up e 0 x some in
    let first = c.base-base.ensures in
    let room = c.args.shape.now.sized.layout.pool.0 in (
      inv.behind (base e x + prev_word (initial_record c.args.shape.now.sizes j)) (omega (arith, up, first, room, low)),
      inv.behind (base e x + view_word (initial_record c.args.shape.now.sizes j)) (omega (arith, up, first, room, low)),
    ) in
    search rules

-- one word more is as it has to be
one_more : (words : List ℕ) (b n v : ℕ) (f : ℕ → ℕ) → b + n < length words → ((k : ℕ) → k < n → slice_index words (b + k) ≡ f k) → v ≡ f n →
    (k : ℕ) → k < n + 1 → slice_index (slice_set words (b + n) v) (b + k) ≡ f k
one_more words b n v f room each is k low = elim (eqb_tells k n) [
  | inl same ↦ subst (λ (j : ℕ). slice_index (slice_set words (b + n) v) (b + j) ≡ f j) (sym same.1) (get_or-set_same words (b + n) v 0 room ∙ is)
  | inr other ↦
      let ne = other.1 in
      get_or-set_other words (b + n) (b + k) v 0 (omega (arith, ne)) ∙ each k (omega (arith, low, ne))
]

pub loop-w-preserved : goal.loop-w-preserved
loop-w-preserved c =
    let inv = c.loop-w.invariant in
    let s = c.args.shape.now in
    let words = c.loop-w.words.items in
    let b = c.base-base.result in
    let fits = s.sized.layout.pool.0 in
    let low : c.loop-w.w < first_free s.sizes = subst (λ n. c.loop-w.w < n) c.first_free-w-end.ensures c.loop-w-test.true in
    let same = length-set words (b + c.loop-w.w) c.opening_word.result in
    let inside : b + c.loop-w.w < length words = omega (arith, inv.room, fits, low) in
    record {
      count = same ∙ inv.count;
      room = omega (arith, same, inv.room);
      control = λ k before. get_or-set_other words (b + c.loop-w.w) k c.opening_word.result 0 (omega (arith, before)) ∙ inv.control k before;
      behind = λ k after. get_or-set_other words (b + c.loop-w.w) k c.opening_word.result 0 (omega (arith, after, fits, low)) ∙ inv.behind k after;
      each = one_more words b c.loop-w.w c.opening_word.result (opening_word s.sizes c.args.initial.now) inside inv.each c.opening_word.ensures;
    }

pub loop-j-init : goal.loop-j-init
loop-j-init c =
    let inv = c.loop-w.invariant in
    record {
      count = inv.count;
      room = inv.room;
      control = inv.control;
      behind = inv.behind;
      each = λ k low. inv.each k (omega (arith, low, c.first_free-w-end.ensures, c.loop-w-test.false));
      carried = λ k low. absurd (omega (arith, low));
    }

pub loop-j-preserved : goal.loop-j-preserved
loop-j-preserved c =
    let inv = c.loop-j.invariant in
    let s = c.args.shape.now in
    let words = c.loop-j.words.items in
    let b = c.base-base.result + c.total.result in
    let fits = s.sized.layout.pool.0 in
    let total_is = c.total.ensures.value in
    let low : c.loop-j.j < s.sizes.m = subst (λ n. c.loop-j.j < n) c.m-j-end.ensures.value c.loop-j-test.true in
    let same = length-set words (b + c.loop-j.j) c.from.result in
    let inside : b + c.loop-j.j < length words = omega (arith, inv.room, total_is, low) in
    record {
      count = same ∙ inv.count;
      room = omega (arith, same, inv.room);
      control = λ k before. get_or-set_other words (b + c.loop-j.j) k c.from.result 0 (omega (arith, before)) ∙ inv.control k before;
      behind = λ k after. get_or-set_other words (b + c.loop-j.j) k c.from.result 0 (omega (arith, after, total_is, low)) ∙ inv.behind k after;
      each = λ k before. get_or-set_other words (b + c.loop-j.j) (c.base-base.result + k) c.from.result 0 (omega (arith, before, fits, total_is)) ∙ inv.each k before;
      carried = one_more words b c.loop-j.j c.from.result (initial_record s.sizes) inside inv.carried (c.from.ensures ∙ c.initial_record.ensures);
    }
