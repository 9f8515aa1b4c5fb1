-- Lists that are cut at a length.
use Rattle.partial_long_lived.proofs.Common.{ℕ, ◌≡◌, ◌<◌, ◌++◌, List, [], ◌∷◌, length, refl, ap, inl, inr, arith, length-append, cases_lt}

-- what stands before an end is the same in both
pub same_before : {A : Type 0} (l m : List A) (a c : A) (t : List A) → l ++ a ∷ t ≡ m ++ c ∷ t → a ≡ c
same_before [] [] a c t is = cc
same_before [] (y ∷ m) a c t is =
    let long = ap (λ (k : List _). length k) is in
    let both = length-append (y ∷ m) (c ∷ t) in
    absurd (omega (arith, long, both))
same_before (x ∷ l) [] a c t is =
    let long = ap (λ (k : List _). length k) is in
    let both = length-append (x ∷ l) (a ∷ t) in
    absurd (omega (arith, long, both))
same_before (x ∷ l) (y ∷ m) a c t is = let rest : l ++ a ∷ t ≡ m ++ c ∷ t = cc in same_before l m a c t rest

-- the end of a list of that length, and the element before it
pub cut : {A : Type 0} (n : ℕ) (l : List A) → n < length l → (front : List A) × (x : A) × (end : List A) × (l ≡ front ++ x ∷ end) × (length end ≡ n)
cut n [] low = absurd (omega (arith, low))
cut n (x ∷ l) low = elim (cases_lt n (length l)) [
  | inl less ↦ let r = cut n l less in (x ∷ r.0, r.1, r.2, ap (λ (k : List _). x ∷ k) r.3, r.4)
  | inr from ↦ ([], x, l, refl, omega (arith, low, from))
]
