-- Sums of a function's values, and the pigeonhole principle.
use Rattle.partial_epochs.proofs.Common.{ℕ, zero, suc, ◌≡◌, ◌≢◌, ◌+◌, ◌*◌, ◌<◌, ◌≤◌, ◌==◌, ◌⊎◌, Bool, true, false, if◌then◌else◌, sym, ap, ◌∙◌, inl, inr, arith, eqb_tells}
use Rattle.partial_epochs.specs.FreeArenas.{sum_below}

-- a sum of values that are at most c
pub sum_few : (f : ℕ → ℕ) (c n : ℕ) → ((i : ℕ) → i < n → f i ≤ c) → sum_below f n ≤ n * c
sum_few f c zero few = omega arith
sum_few f c (suc n) few =
    let rest : sum_below f n ≤ n * c = sum_few f c n (λ i low. few i (omega (arith, low))) in
    let one : f n ≤ c = few n (omega arith) in
    let more : suc n * c ≡ c + n * c = omega arith in
    omega (arith, rest, one, more)

-- numbers up to n don't all have different values below n
pub pigeonhole : (n : ℕ) (f : ℕ → ℕ) → ((i : ℕ) → i ≤ n → f i < n) → ((i j : ℕ) → i ≤ n → j ≤ n → f i ≡ f j → i ≡ j) → ⊥
pigeonhole zero f low one = let none = low 0 (omega arith) in absurd (omega (arith, none))
pigeonhole (suc n) f low one = pigeonhole n g g_low g_one
  where
    -- the value n is replaced by that of the last number
    g : ℕ → ℕ
    g i = if f i == n then f (suc n) else f i

    apart : (i : ℕ) → i ≤ n → f i ≢ f (suc n)
    apart i in_range same = let is = one i (suc n) (omega (arith, in_range)) (omega arith) same in absurd (omega (arith, in_range, is))

    replaced : (i : ℕ) → f i ≡ n → g i ≡ f (suc n)
    replaced i is = elim (eqb_tells (f i) n) [
      | inl e ↦ ap (λ (c : Bool). if c then f (suc n) else f i) e.0
      | inr e ↦ absurd (e.1 is)
    ]

    kept : (i : ℕ) → f i ≢ n → g i ≡ f i
    kept i ne = elim (eqb_tells (f i) n) [
      | inl e ↦ absurd (ne e.1)
      | inr e ↦ ap (λ (c : Bool). if c then f (suc n) else f i) e.0
    ]

    g_low : (i : ℕ) → i ≤ n → g i < n
    g_low i in_range = elim (eqb_tells (f i) n) [
      | inl e ↦
          let is = e.1 in
          let now = replaced i is in
          let last = low (suc n) (omega arith) in
          let ne : n ≢ f (suc n) = λ same. apart i in_range (is ∙ same) in
          omega (arith, now, last, ne)
      | inr e ↦
          let ne = e.1 in
          let now = kept i ne in
          let below = low i (omega (arith, in_range)) in
          omega (arith, now, below, ne)
    ]

    g_one : (i j : ℕ) → i ≤ n → j ≤ n → g i ≡ g j → i ≡ j
    g_one i j up to same = by (eqb_tells (f i) n) (eqb_tells (f j) n)
      where
        by : (((f i == n) ≡ true) × (f i ≡ n)) ⊎ (((f i == n) ≡ false) × (f i ≢ n)) → (((f j == n) ≡ true) × (f j ≡ n)) ⊎ (((f j == n) ≡ false) × (f j ≢ n)) → i ≡ j
        by (inl p) (inl q) = one i j (omega (arith, up)) (omega (arith, to)) (p.1 ∙ sym q.1)
        by (inl p) (inr q) = absurd (apart j to (sym (kept j q.1) ∙ sym same ∙ replaced i p.1))
        by (inr p) (inl q) = absurd (apart i up (sym (kept i p.1) ∙ same ∙ replaced j q.1))
        by (inr p) (inr q) = one i j (omega (arith, up)) (omega (arith, to)) (sym (kept i p.1) ∙ same ∙ kept j q.1)
