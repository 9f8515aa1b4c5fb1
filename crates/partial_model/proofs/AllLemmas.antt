-- What holds of all elements of a list.
use Rattle.partial_model.proofs.Common.{ℕ, zero, suc, ◌≡◌, ◌<◌, ◌++◌, List, [], ◌∷◌, Some, slice_get, length, map, take, slice_index, refl, arith, AllByRecursion}

-- one element in the middle
module _ {A : Type 0} (P : A → Type 0) where
  pub all_before : (before : List A) (x : A) (after : List A) → AllByRecursion P (before ++ x ∷ after) → AllByRecursion P before
  all_before [] x after w = tt
  all_before (b ∷ before) x after w = (w.0, all_before before x after w.1)

  pub all_at : (before : List A) (x : A) (after : List A) → AllByRecursion P (before ++ x ∷ after) → P x
  all_at [] x after w = w.0
  all_at (b ∷ before) x after w = all_at before x after w.1

  pub all_after : (before : List A) (x : A) (after : List A) → AllByRecursion P (before ++ x ∷ after) → AllByRecursion P after
  all_after [] x after w = w.1
  all_after (b ∷ before) x after w = all_after before x after w.1

  pub all_join : (before : List A) (x : A) (after : List A) → AllByRecursion P before → P x → AllByRecursion P after → AllByRecursion P (before ++ x ∷ after)
  all_join [] x after w p v = (p, v)
  all_join (b ∷ before) x after w p v = (w.0, all_join before x after w.1 p v)

pub all_weaker : {A : Type 0} (P R : A → Type 0) → ((x : A) → P x → R x) → (xs : List A) → AllByRecursion P xs → AllByRecursion R xs
all_weaker P R f [] p = tt
all_weaker P R f (x ∷ xs) p = (f x p.0, all_weaker P R f xs p.1)

-- two lists, one after the other
pub all_append : {A : Type 0} (P : A → Type 0) (xs ys : List A) → AllByRecursion P xs → AllByRecursion P ys → AllByRecursion P (xs ++ ys)
all_append P [] ys v w = w
all_append P (x ∷ xs) ys v w = (v.0, all_append P xs ys v.1 w)

pub all_front : {A : Type 0} (P : A → Type 0) (xs ys : List A) → AllByRecursion P (xs ++ ys) → AllByRecursion P xs
all_front P [] ys w = tt
all_front P (x ∷ xs) ys w = (w.0, all_front P xs ys w.1)

pub all_back : {A : Type 0} (P : A → Type 0) (xs ys : List A) → AllByRecursion P (xs ++ ys) → AllByRecursion P ys
all_back P [] ys w = w
all_back P (x ∷ xs) ys w = all_back P xs ys w.1

-- a list of what a function gives
pub all_map : {A B : Type 0} (P : B → Type 0) (g : A → B) (xs : List A) → AllByRecursion (λ x. P (g x)) xs → AllByRecursion P (map g xs)
all_map P g [] w = tt
all_map P g (x ∷ xs) w = (w.0, all_map P g xs w.1)

pub all_unmap : {A B : Type 0} (P : B → Type 0) (g : A → B) (xs : List A) → AllByRecursion P (map g xs) → AllByRecursion (λ x. P (g x)) xs
all_unmap P g [] w = tt
all_unmap P g (x ∷ xs) w = (w.0, all_unmap P g xs w.1)

-- what holds of the element at each place holds of all
pub all_where : {A : Type 0} (P : A → Type 0) (h : List A) → ((k : ℕ) (e : A) → slice_get h k ≡ Some e → P e) → AllByRecursion P h
all_where P [] f = tt
all_where P (x ∷ h) f = (f 0 x refl, all_where P h (λ k e s. f (suc k) e s))

-- what holds of all numbers holds of each
pub position_below : (xs : List ℕ) (n k : ℕ) → AllByRecursion (λ j. j < n) xs → k < length xs → slice_index xs k < n
position_below [] n k all within = absurd (omega arith)
position_below (x ∷ xs) n zero all within = all.0
position_below (x ∷ xs) n (suc k) all within = position_below xs n k all.1 (omega (arith, within))

-- the first of a list's elements, and those after them
pub all_take : {A : Type 0} (P : A → Type 0) (n : ℕ) (xs : List A) → AllByRecursion P xs → AllByRecursion P (take n xs)
all_take P zero xs all = tt
all_take P (suc n) [] all = tt
all_take P (suc n) (x ∷ xs) all = (all.0, all_take P n xs all.1)
