-- A component's value, entry by entry.
use Rattle.partial_model.proofs.{Common.{ℕ, zero, suc, ◌≡◌, ◌+◌, ◌<◌, ◌≤◌, ◌==◌, ◌++◌, if◌then◌else◌, List, [], ◌∷◌, length, take, slice_index_or, slice_index, refl, ◌∙◌, ap, inl, inr, Option, Some, slice_get, arith, option_map_or, take_more, get_or_from_slice_get, slice_get_within, eq-eqb, ne_eqb, cases_lt, Applied, Opening, value_of, RisingNeverFalls}, HistoryLemmas.{last_entry-nil, value_of-push}}

-- the value before the first entry
pub value_at_first : (o : Opening) (j : ℕ) → value_of o [] j ≡ slice_index o.values j
value_at_first o j = ap (λ (found : Option Applied). option_map_or (λ (x : Applied). x.value) found (slice_index o.values j)) (last_entry-nil j)

-- the value after one entry more
pub value_behind : (o : Opening) (h : List Applied) (k : ℕ) (e : Applied) (j : ℕ) → slice_get h k ≡ Some e → value_of o (take (k + 1) h) j
    ≡ (if e.component == j then e.value else value_of o (take k h) j)
value_behind o h k e j s =
    let is : slice_index_or h k e ≡ e = get_or_from_slice_get h k e e s in
    let more : take (k + 1) h ≡ take k h ++ e ∷ [] = take_more h k e (slice_get_within h k e s) ∙ ap (λ (x : Applied). take k h ++ x ∷ []) is in
    ap (λ (l : List Applied). value_of o l j) more ∙ value_of-push o (take k h) e j

pub value_set : (o : Opening) (h : List Applied) (k : ℕ) (e : Applied) (j : ℕ) → slice_get h k ≡ Some e → e.component ≡ j → value_of o (take (k + 1) h) j ≡ e.value
value_set o h k e j s is = value_behind o h k e j s ∙ ap (λ b. if b then e.value else value_of o (take k h) j) (eq-eqb e.component j is)

pub value_kept : (o : Opening) (h : List Applied) (k : ℕ) (e : Applied) (j : ℕ) → slice_get h k ≡ Some e → (e.component ≡ j → ⊥) → value_of o (take (k + 1) h) j ≡ value_of o (take k h) j
value_kept o h k e j s other = value_behind o h k e j s ∙ ap (λ b. if b then e.value else value_of o (take k h) j) (ne_eqb e.component j other)

-- there is an element at each place below the length
pub element_at : {A : Type 0} (xs : List A) (k : ℕ) → k < length xs → (x : A) × (slice_get xs k ≡ Some x)
element_at [] k within = absurd (omega arith)
element_at (x ∷ xs) zero within = (x, refl)
element_at (x ∷ xs) (suc k) within = element_at xs k (omega arith)

pub rising_never_falls : RisingNeverFalls
rising_never_falls o h j m zero up before within = let same : m ≡ 0 = omega arith in rw same (omega arith)
rising_never_falls o h j m (suc n) up before within =
    elim (cases_lt m (suc n)) [
      | inr same ↦ let all : m ≡ suc n = omega arith in rw all (omega arith)
      | inl sooner ↦
          let at = element_at h n (omega arith) in
          let rest = rising_never_falls o h j m n up (omega arith) (omega arith) in
          let one = value_behind o h n at.0 j at.1 in
          let plus : suc n ≡ n + 1 = omega arith in
          rw plus (rw one (raised (at.0.component) j (at.0.value) (value_of o (take m h) j) (value_of o (take n h) j) rest (up n at.0 at.1)))
    ]
  where
    raised : (c j v x y : ℕ) → x ≤ y → (c ≡ j → y ≤ v) → x ≤ (if c == j then v else y)
    raised c j v x y h up = grind arith
