-- Two lists whose elements at each place belong together.
use Rattle.partial_workers.proofs.Common.{ℕ, zero, suc, ◌≡◌, ◌+◌, ◌<◌, ◌++◌, List, [], ◌∷◌, length, map, take, slice_index_or, refl, sym, ap, subst, ◌∙◌, arith, AllByRecursion, take-suc, all_append, length-take-le, AreEach}

module _ {A B : Type 0} (P : ℕ → A → B → Type 0) where
  pub each_length : (k : ℕ) (xs : List A) (ys : List B) → AreEach P k xs ys → length xs ≡ length ys
  each_length k [] [] w = refl
  each_length k [] (y ∷ ys) w = absurd w
  each_length k (x ∷ xs) [] w = absurd w
  each_length k (x ∷ xs) (y ∷ ys) w = ap suc (each_length (k + 1) xs ys w.1)

  -- the pair at a place
  pub each_at : (k n : ℕ) (xs : List A) (ys : List B) (x : A) (y : B) → AreEach P k xs ys → n < length ys → x ≡ slice_index_or xs n x → y ≡ slice_index_or ys n y → P (k + n) x y
  each_at k n [] [] x y w within at is = absurd (omega (arith, within))
  each_at k n [] (b ∷ ys) x y w within at is = absurd w
  each_at k n (a ∷ xs) [] x y w within at is = absurd w
  each_at k zero (a ∷ xs) (b ∷ ys) x y w within at is =
      let first : P k x y = subst (λ (v : A). P k v y) (sym at) (subst (λ (v : B). P k a v) (sym is) w.0) in
      subst (λ i. P i x y) (omega arith) first
  each_at k (suc n) (a ∷ xs) (b ∷ ys) x y w within at is =
      let rest : P (k + 1 + n) x y = each_at (k + 1) n xs ys x y w.1 (omega (arith, within)) at is in
      subst (λ i. P i x y) (omega arith) rest

  each_snoc : (k : ℕ) (xs : List A) (ys : List B) (x : A) (y : B) → AreEach P k xs ys → P (k + length xs) x y → AreEach P k (xs ++ x ∷ []) (ys ++ y ∷ [])
  each_snoc k [] [] x y w p = (subst (λ i. P i x y) (omega arith) p, tt)
  each_snoc k [] (b ∷ ys) x y w p = absurd w
  each_snoc k (a ∷ xs) [] x y w p = absurd w
  each_snoc k (a ∷ xs) (b ∷ ys) x y w p = (w.0, each_snoc (k + 1) xs ys x y w.1 (subst (λ i. P i x y) (omega arith) p))

  -- one pair more
  pub each_push : (k n next : ℕ) (xs : List A) (ys : List B) (x : A) (y : B) → AreEach P k (take n xs) ys → n < length xs → x ≡ slice_index_or xs n x → P (k + n) x y → next ≡ n + 1 →
      AreEach P k (take next xs) (ys ++ y ∷ [])
  each_push k n next xs ys x y w within at p is =
      let long : length (take n xs) ≡ n = length-take-le n xs (omega (arith, within)) in
      let more = each_snoc k (take n xs) ys x y w (subst (λ i. P (k + i) x y) (sym long) p) in
      let one : next ≡ suc n = is ∙ omega arith in
      let taken : take next xs ≡ take n xs ++ x ∷ [] = ap (λ i. take i xs) one ∙ take-suc xs n x within ∙ ap (λ (v : A). take n xs ++ v ∷ []) (sym at) in
      subst (λ (l : List A). AreEach P k l (ys ++ y ∷ [])) (sym taken) more

-- an element of the second list belongs to some element of the first
pub each_some : {A B : Type 0} (P : ℕ → A → B → Type 0) (k n : ℕ) (xs : List A) (ys : List B) (y : B) → AreEach P k xs ys → n < length ys → y ≡ slice_index_or ys n y → (x : A) × P (k + n) x y
each_some P k n [] [] y w within is = absurd (omega (arith, within))
each_some P k n [] (b ∷ ys) y w within is = absurd w
each_some P k n (a ∷ xs) [] y w within is = absurd w
each_some P k zero (a ∷ xs) (b ∷ ys) y w within is = (a, subst (λ i. P i a y) (omega arith) (subst (λ v. P k a v) (sym is) w.0))
each_some P k (suc n) (a ∷ xs) (b ∷ ys) y w within is =
    let rest = each_some P (k + 1) n xs ys y w.1 (omega (arith, within)) is in
    (rest.0, subst (λ i. P i rest.0 y) (omega arith) rest.1)

-- what holds of the elements so far and of the next one
pub all_next : {A : Type 0} (P : A → Type 0) (k next : ℕ) (xs : List A) (x : A) → k < length xs → x ≡ slice_index_or xs k x → next ≡ k + 1 → AllByRecursion P (take k xs) → P x →
    AllByRecursion P (take next xs)
all_next {A} P k next xs x within at is had new =
    let one : next ≡ suc k = is ∙ omega arith in
    let taken : take next xs ≡ take k xs ++ x ∷ [] = ap (λ i. take i xs) one ∙ take-suc xs k x within ∙ ap (λ (v : A). take k xs ++ v ∷ []) (sym at) in
    subst (AllByRecursion P) (sym taken) (all_append P (take k xs) (x ∷ []) had (new, tt))

-- what stands at a place of a list, seen by a function
pub map_at : {A B : Type 0} (f : A → B) (n : ℕ) (xs : List A) (x : A) → n < length xs → x ≡ slice_index_or xs n x → f x ≡ slice_index_or (map f xs) n (f x)
map_at f n [] x within is = absurd (omega (arith, within))
map_at f zero (a ∷ xs) x within is = ap f is
map_at f (suc n) (a ∷ xs) x within is = map_at f n xs x (omega (arith, within)) is
