-- What a getSet has found stays without repeats and below the number of components, so it is no more
-- than there are components.
use Rattle.partial_active.proofs.{Common.{ℕ, suc, ◌≡◌, ◌+◌, ◌-◌, ◌<◌, ◌≤◌, min, Bool, true, false, if◌then◌else◌, nat_eq, ◌==◌, nat_lt, List, [], ◌∷◌, ◌++◌, length, slice_index, refl, sym, ◌∙◌, ap, subst, arith, inl, inr, list_any, cond_both, cases_lt, or_cases, eqb-true, false≢true, get_or_append_left, length_push, list_end, begins_at, AreIndices, has_index, with_index, Stage, Head, ListLen, ListLow, ListHigh, Counter, Slot, Len, Index, Claim, Write, Publish, Done, SetPair, after_walk, at_slot, come_to, pass_interval, note_slot, in_stage, advance_set_at, is_possible_at, next_word, indices_word, nat_eq_equiv, IsDistinct-push}, Named.same_test}
use Rattle.std.specs.List.{IsDistinct}
use Rattle.std.proofs.Math.Seq.{get_or-append_seam}
use Rattle.std.proofs.lemmas.Map.Steps.{length-le_from_distinct_below}

pub no_index : (n : ℕ) → AreIndices n []
unfolding IsDistinct
no_index n = record { each = λ k lt. absurd (omega arith); distinct = tt }

below : (l : List ℕ) (n : ℕ) → ((k : ℕ) → k < length l → slice_index l k < n) → (q : ℕ) → list_any (nat_eq q) l ≡ true → q < n
below [] n each q is = absurd (false≢true is)
below (y ∷ l) n each q is = elim (or_cases (q == y) (list_any (nat_eq q) l) is) [
  | inl here ↦ let same = eqb-true q y here in let first = each 0 (omega arith) in omega (arith, same, first)
  | inr more ↦ below l n (λ k lt. each (suc k) (omega (arith, lt))) q more
]

-- there are no more of them than numbers below
pub few_indices : (n : ℕ) (l : List ℕ) → AreIndices n l → length l ≤ n
few_indices n l w = length-le_from_distinct_below l n w.distinct (below l n w.each)

pub one_more_index : (n : ℕ) (l : List ℕ) (x : ℕ) → AreIndices n l → x < n → AreIndices n (with_index l x)
one_more_index n l x w lt = cond_both (has_index l x) l (l ++ x ∷ []) (AreIndices n)
    (λ e. w)
    (λ e. record {
      each = λ k inside. elim (cases_lt k (length l)) [
        | inl before ↦ let same = get_or_append_left l (x ∷ []) 0 k before in let old = w.each k before in omega (arith, same, old)
        | inr from ↦
            let is : k ≡ length l = let longer = length_push l x in omega (arith, inside, from, longer) in
            let last : slice_index (l ++ x ∷ []) (length l) ≡ x = get_or-append_seam l x [] 0 in
            let there : slice_index (l ++ x ∷ []) k ≡ x = ap (λ i. slice_index (l ++ x ∷ []) i) is ∙ last in
            omega (arith, there, lt)
      ];
      distinct = IsDistinct-push nat_eq_equiv l x w.distinct (same_test l x ∙ e);
    })

found_at_slot : (p : SetPair) (slot : ℕ) → (at_slot p slot).1.indices ≡ p.1.indices
found_at_slot p slot = cond_both (nat_lt slot p.0.end) (record p.0 { stage = Slot slot }, p.1) (after_walk p) (λ (q : SetPair). q.1.indices ≡ p.1.indices) (λ e. refl) (λ e. refl)

found_walked : (p : SetPair) (slot next : ℕ) (b : Bool) → (if b then at_slot (pass_interval p) next else at_slot p slot).1.indices ≡ p.1.indices
found_walked p slot next true = found_at_slot (pass_interval p) next
found_walked p slot next false = found_at_slot p slot

found_come_to : (p : SetPair) (slot : ℕ) → (come_to p slot).1.indices ≡ p.1.indices
found_come_to p slot = found_walked p slot _ (begins_at p.1.read p.0.passed slot)

-- where the walk goes on
walked : (n : ℕ) (p : SetPair) (slot : ℕ) → AreIndices n p.1.indices → AreIndices n (come_to p slot).1.indices
walked n p slot w = subst (AreIndices n) (sym (found_come_to p slot)) w

-- over an answer
pub found_kept : (stage : Stage) (p : SetPair) (x : ℕ) → is_possible_at stage p x → AreIndices p.0.sizes.m p.1.indices → AreIndices p.0.sizes.m (advance_set_at stage p x).1.indices
found_kept Head p x possible w = no_index p.0.sizes.m
found_kept (ListLen at) p x possible w = w
found_kept (ListLow at left) p x possible w = w
found_kept (ListHigh at left lo) p x possible w = w
found_kept Counter p x possible w = walked p.0.sizes.m (record p.0 { end = min x p.0.sizes.slots; passed = 0 }, p.1) 0 w
found_kept (Slot slot) p x possible w = cond_both (x == 0) (come_to p (slot + 1)) (if x == 1 then come_to (note_slot p slot) (slot + 1) else in_stage p (Len slot x))
    (λ (q : SetPair). AreIndices p.0.sizes.m q.1.indices)
    (λ e. walked p.0.sizes.m p (slot + 1) w)
    (λ not_empty. cond_both (x == 1) (come_to (note_slot p slot) (slot + 1)) (in_stage p (Len slot x)) (λ (q : SetPair). AreIndices p.0.sizes.m q.1.indices)
    (λ e. walked p.0.sizes.m (note_slot p slot) (slot + 1) w) (λ e. w))
found_kept (Len slot at) p x possible w = cond_both (x == 0) (come_to p (slot + 1)) (in_stage p (Index slot (indices_word at) x)) (λ (q : SetPair). AreIndices p.0.sizes.m q.1.indices)
    (λ e. walked p.0.sizes.m p (slot + 1) w) (λ e. w)
found_kept (Index slot at left) p x possible w =
    let q : SetPair = (p.0, record p.1 { indices = with_index p.1.indices x }) in
    let more : AreIndices p.0.sizes.m q.1.indices = one_more_index p.0.sizes.m p.1.indices x w possible in
    cond_both (left == 1) (come_to q (slot + 1)) (in_stage q (Index slot (next_word at) (left - 1))) (λ (r : SetPair). AreIndices p.0.sizes.m r.1.indices)
    (λ e. walked p.0.sizes.m q (slot + 1) more) (λ e. more)
found_kept (Claim words) p x possible w = cond_both (nat_lt (list_end p.0.sizes) (x + words)) (record p.0 { lists_spent = true; stage = Done }, p.1) (in_stage p (Write x 0 words (length p.1.next)))
    (λ (q : SetPair). AreIndices p.0.sizes.m q.1.indices) (λ e. w) (λ e. w)
found_kept (Write at k words word) p x possible w = w
found_kept (Publish at) p x possible w = w
found_kept Done p x possible w = w
