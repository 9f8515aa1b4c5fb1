-- The normal form of a set is one.
use Rattle.partial_intervals.proofs.Common.{ℕ, zero, suc, ◌≡◌, ◌+◌, ◌<◌, ◌≤◌, [], ◌∷◌, refl, sym, ap, ◌∙◌, inl, inr, arith, cases_lt, Ranges, lowest, Holds, IsNormal, NormalFormsAreUnique}

normal_tail : (r : ℕ × ℕ) (a : Ranges) → IsNormal (r ∷ a) → IsNormal a
normal_tail r a w = record {
  closed = λ k below. w.closed (suc k) (omega (arith, below));
  bounded = λ k below. w.bounded (suc k) (omega (arith, below));
  apart = λ j k less below. w.apart (suc j) (suc k) (omega (arith, less)) (omega (arith, below));
}

-- the first interval begins at or below each number that is held
first_low : (r : ℕ × ℕ) (a : Ranges) (x : ℕ) → IsNormal (r ∷ a) → Holds (r ∷ a) x → r.0 ≤ x
first_low r a x w (zero, within, low, high) = low
first_low r a x w (suc k, within, low, high) =
    let closed = w.closed 0 (omega arith) in
    let apart = w.apart 0 (suc k) (omega arith) within in
    omega (arith, closed, apart, low)

-- the number after the first interval is not held
behind_first : (r : ℕ × ℕ) (a : Ranges) (x : ℕ) → IsNormal (r ∷ a) → x ≡ r.1 + 1 → Holds (r ∷ a) x → ⊥
behind_first r a x w e (zero, within, low, high) = omega (arith, e, high)
behind_first r a x w e (suc k, within, low, high) = let apart = w.apart 0 (suc k) (omega arith) within in omega (arith, e, apart, low)

-- the first interval goes no further than that of another list that holds the same numbers
no_further : (r s : ℕ × ℕ) (a b : Ranges) → IsNormal (r ∷ a) → IsNormal (s ∷ b) → r.0 ≡ s.0 → ((x : ℕ) → Holds (s ∷ b) x → Holds (r ∷ a) x) → s.1 ≤ r.1
no_further r s a b v w low same = elim (cases_lt r.1 s.1) [
  | inl less ↦
      let closed = v.closed 0 (omega arith) in
      let held : Holds (s ∷ b) (r.1 + 1) = (0, omega arith, omega (arith, low, closed), omega (arith, less)) in
      absurd (behind_first r a (r.1 + 1) v refl (same (r.1 + 1) held))
  | inr at_most ↦ at_most
]

-- what a tail holds, the other tail holds
tail_holds : (r s : ℕ × ℕ) (a b : Ranges) (x : ℕ) → IsNormal (r ∷ a) → r.1 ≡ s.1 → (Holds (r ∷ a) x → Holds (s ∷ b) x) → Holds a x → Holds b x
tail_holds r s a b x v high same (k, within, low, top) =
    let apart = v.apart 0 (suc k) (omega arith) (omega (arith, within)) in
    shifted (same (suc k, omega (arith, within), low, top)) apart
  where
    shifted : Holds (s ∷ b) x → r.1 + 1 < lowest a k → Holds b x
    shifted (zero, inside, below, above) apart = absurd (omega (arith, apart, low, above, high))
    shifted (suc j, inside, below, above) apart = (j, omega (arith, inside), below, above)

pub normal_forms_are_unique : NormalFormsAreUnique
normal_forms_are_unique [] [] v w same = refl
normal_forms_are_unique [] (s ∷ b) v w same =
    let closed = w.closed 0 (omega arith) in
    let held = (same s.0).1 (0, omega arith, omega arith, closed) in
    let within = held.1 in absurd (omega (arith, within))
normal_forms_are_unique (r ∷ a) [] v w same =
    let closed = v.closed 0 (omega arith) in
    let held = (same r.0).0 (0, omega arith, omega arith, closed) in
    let within = held.1 in absurd (omega (arith, within))
normal_forms_are_unique (r ∷ a) (s ∷ b) v w same =
    let closed = v.closed 0 (omega arith) in
    let closed' = w.closed 0 (omega arith) in
    let up = first_low s b r.0 w ((same r.0).0 (0, omega arith, omega arith, closed)) in
    let down = first_low r a s.0 v ((same s.0).1 (0, omega arith, omega arith, closed')) in
    let low : r.0 ≡ s.0 = omega (arith, up, down) in
    let more = no_further r s a b v w low (λ x. (same x).1) in
    let less = no_further s r b a w v (sym low) (λ x. (same x).0) in
    let high : r.1 ≡ s.1 = omega (arith, more, less) in
    let head : r ≡ s = ap (λ n. (n, r.1)) low ∙ ap (λ n. (s.0, n)) high in
    let tail : a ≡ b = normal_forms_are_unique a b (normal_tail r a v) (normal_tail s b w) (λ x. (tail_holds r s a b x v high ((same x).0), tail_holds s r b a x w (sym high) ((same x).1))) in
    ap (λ (t : ℕ × ℕ). t ∷ a) head ∙ ap (λ (l : Ranges). s ∷ l) tail
