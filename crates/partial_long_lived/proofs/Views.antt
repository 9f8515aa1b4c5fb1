-- How many seats are of one port.
use Rattle.partial_long_lived.proofs.Common.{◌≡◌, ◌≢◌, ℕ, ◌+◌, ◌==◌, ◌⊎◌, Bool, true, false, if◌then◌else◌, List, [], ◌∷◌, ◌++◌, refl, ap, inl, inr, arith, AllByRecursion, eqb_tells, SeatedPort, seats_of}

-- how many seats of a port two lists have
pub seats_both : (k : ℕ) (xs ys : List SeatedPort) → seats_of k (xs ++ ys) ≡ seats_of k xs + seats_of k ys
seats_both k [] ys = omega arith
seats_both k (x ∷ xs) ys = let rest = seats_both k xs ys in omega (arith, rest)

-- a seat is one of its port
pub seat_own : (x : SeatedPort) (xs : List SeatedPort) → seats_of x.number (x ∷ xs) ≡ 1 + seats_of x.number xs
seat_own x xs = by (eqb_tells x.number x.number)
  where
    by : (((x.number == x.number) ≡ true) × (x.number ≡ x.number)) ⊎ (((x.number == x.number) ≡ false) × (x.number ≢ x.number)) → seats_of x.number (x ∷ xs) ≡ 1 + seats_of x.number xs
    by (inl is) = ap (λ (b : Bool). (if b then 1 else 0) + seats_of x.number xs) is.0
    by (inr ne) = absurd (ne.1 refl)

-- where there is none of a port, all are of others
pub others_all : (P : SeatedPort → Type 0) (k : ℕ) (xs : List SeatedPort) → seats_of k xs ≡ 0 → AllByRecursion P xs → AllByRecursion (λ z. (z.number ≢ k) × P z) xs
others_all P k [] none all = tt
others_all P k (x ∷ xs) none all = by (eqb_tells x.number k) (λ less. others_all P k xs less all.1)
  where
    by : (((x.number == k) ≡ true) × (x.number ≡ k)) ⊎ (((x.number == k) ≡ false) × (x.number ≢ k)) → (seats_of k xs ≡ 0 → AllByRecursion (λ z. (z.number ≢ k) × P z) xs) →
        AllByRecursion (λ z. (z.number ≢ k) × P z) (x ∷ xs)
    by (inl is) rest = let one = ap (λ (b : Bool). (if b then 1 else 0) + seats_of k xs) is.0 in absurd (omega (arith, one, none))
    by (inr ne) rest = let zero_more = ap (λ (b : Bool). (if b then 1 else 0) + seats_of k xs) ne.0 in ((ne.1, all.0), rest (omega (arith, zero_more, none)))
