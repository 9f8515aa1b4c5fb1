-- Lists of a function's values, functions with one value changed, and counts.
use Rattle.partial_epochs.proofs.Common.{ℕ, zero, suc, ◌≡◌, ◌≢◌, ◌+◌, ◌<◌, ◌≤◌, ◌++◌, Bool, true, false, if◌then◌else◌, List, [], ◌∷◌, length, slice_index, slice_set, refl, sym, ap, subst, ◌∙◌, inl, inr, arith, eqb_tells, list_of, put, count}

pub length_of : {A : Type 0} (f : ℕ → A) (p n : ℕ) → length (list_of f p n) ≡ n
length_of f p zero = refl
length_of f p (suc n) = ap suc (length_of f (p + 1) n)

pub same_of : {A : Type 0} (f g : ℕ → A) (p n : ℕ) → ((i : ℕ) → p ≤ i → i < p + n → f i ≡ g i) → list_of f p n ≡ list_of g p n
same_of f g p zero e = refl
same_of f g p (suc n) e = ap (λ x. x ∷ list_of f (p + 1) n) (e p (omega arith) (omega arith))
    ∙ ap (λ l. g p ∷ l) (same_of f g (p + 1) n (λ i low high. e i (omega (arith, low)) (omega (arith, high))))

pub at_of : (f : ℕ → ℕ) (p n i : ℕ) → i < n → slice_index (list_of f p n) i ≡ f (p + i)
at_of f p zero i below = absurd (omega (arith, below))
at_of f p (suc n) zero below = ap f (omega arith)
at_of f p (suc n) (suc i) below = at_of f (p + 1) n i (omega (arith, below)) ∙ ap f (omega arith)

-- where a function changes at one argument
pub set_of : (f g : ℕ → ℕ) (p n i : ℕ) → i < n → ((j : ℕ) → j ≢ p + i → g j ≡ f j) → list_of g p n ≡ slice_set (list_of f p n) i (g (p + i))
set_of f g p zero i below e = absurd (omega (arith, below))
set_of f g p (suc n) zero below e =
    let here : p ≡ p + 0 = omega arith in
    ap (λ j. g j ∷ list_of g (p + 1) n) here ∙ ap (λ l. g (p + 0) ∷ l) (same_of g f (p + 1) n (λ j low high. e j (omega (arith, low))))
set_of f g p (suc n) (suc i) below e =
    let there : p + 1 + i ≡ p + suc i = omega arith in
    ap (λ x. x ∷ list_of g (p + 1) n) (e p (omega arith))
    ∙ ap (λ l. f p ∷ l) (set_of f g (p + 1) n i (omega (arith, below)) (λ j ne. e j (omega (arith, ne))))
    ∙ ap (λ j. f p ∷ slice_set (list_of f (p + 1) n) i (g j)) there

-- the element at k, between the others
pub record Around {A : Type 0} (f : ℕ → A) (p n k : ℕ) : Type 0 where
  pub before : List A
  pub after : List A
  pub is : list_of f p n ≡ before ++ f k ∷ after
  pub renewed : (g : ℕ → A) → ((i : ℕ) → i ≢ k → g i ≡ f i) → list_of g p n ≡ before ++ g k ∷ after

pub around_of : {A : Type 0} (f : ℕ → A) (p n k : ℕ) → p ≤ k → k < p + n → Around f p n k
around_of f p zero k low high = absurd (omega (arith, low, high))
around_of {A} f p (suc n) k low high = elim (eqb_tells p k) [
  | inl same ↦ record {
    before = [];
    after = list_of f (p + 1) n;
    is = ap (λ i. f i ∷ list_of f (p + 1) n) same.1;
    renewed = λ g e. ap (λ i. g i ∷ list_of g (p + 1) n) same.1 ∙ ap (λ (l : List A). g k ∷ l)
        (same_of g f (p + 1) n (λ i from to. let is = same.1 in e i (omega (arith, from, is))));
  }
  | inr other ↦
      let ne = other.1 in
      let r = around_of f (p + 1) n k (omega (arith, low, ne)) (omega (arith, high)) in
      record {
        before = f p ∷ r.before;
        after = r.after;
        is = ap (λ (l : List A). f p ∷ l) r.is;
        renewed = λ g e. ap (λ x. x ∷ list_of g (p + 1) n) (e p ne) ∙ ap (λ (l : List A). f p ∷ l) (r.renewed g e);
      }
]

-- a function with one value changed
pub put_same : {A : Type 0} (k : ℕ) (x : A) (f : ℕ → A) → put k x f k ≡ x
put_same k x f = elim (eqb_tells k k) [
  | inl e ↦ ap (λ (b : Bool). if b then x else f k) e.0
  | inr e ↦ absurd (e.1 refl)
]

pub put_other : {A : Type 0} (k : ℕ) (x : A) (f : ℕ → A) (i : ℕ) → i ≢ k → put k x f i ≡ f i
put_other k x f i ne = elim (eqb_tells i k) [
  | inl e ↦ absurd (ne e.1)
  | inr e ↦ ap (λ (b : Bool). if b then x else f i) e.0
]

-- what holds of the new value, and of the others
pub put_all : {A : Type 0} (P : ℕ → A → Type 0) (k : ℕ) (x : A) (f : ℕ → A) (i : ℕ) → (i ≡ k → P k x) → (i ≢ k → P i (f i)) → P i (put k x f i)
put_all P k x f i here there = elim (eqb_tells i k) [
  | inl e ↦ subst (λ j. P j (put k x f j)) (sym e.1) (subst (P k) (sym (put_same k x f)) (here e.1))
  | inr e ↦ subst (P i) (sym (put_other k x f i e.1)) (there e.1)
]

-- a count with one value changed
pub count_same : (f g : ℕ → Bool) (p n : ℕ) → ((i : ℕ) → p ≤ i → i < p + n → f i ≡ g i) → count f p n ≡ count g p n
count_same f g p zero e = refl
count_same f g p (suc n) e = ap (λ (c : Bool). (if c then 1 else 0) + count f (p + 1) n) (e p (omega arith) (omega arith))
    ∙ ap (λ m. (if g p then 1 else 0) + m) (count_same f g (p + 1) n (λ i low high. e i (omega (arith, low)) (omega (arith, high))))

pub count_more : (f g : ℕ → Bool) (p n k : ℕ) → p ≤ k → k < p + n → f k ≡ false → g k ≡ true → ((i : ℕ) → i ≢ k → g i ≡ f i) → count g p n ≡ count f p n + 1
count_more f g p zero k low high off on e = absurd (omega (arith, low, high))
count_more f g p (suc n) k low high off on e = elim (eqb_tells p k) [
  | inl same ↦
      let rest : count g (p + 1) n ≡ count f (p + 1) n = count_same g f (p + 1) n (λ i from to. let is = same.1 in e i (omega (arith, from, is))) in
      let one : ◌≡◌ {A = ℕ} (if g p then 1 else 0) 1 = ap (λ (c : Bool). if c then 1 else 0) (ap g same.1 ∙ on) in
      let none : ◌≡◌ {A = ℕ} (if f p then 1 else 0) 0 = ap (λ (c : Bool). if c then 1 else 0) (ap f same.1 ∙ off) in
      omega (arith, rest, one, none)
  | inr other ↦
      let ne = other.1 in
      let rest = count_more f g (p + 1) n k (omega (arith, low, ne)) (omega (arith, high)) off on e in
      let here : ◌≡◌ {A = ℕ} (if g p then 1 else 0) (if f p then 1 else 0) = ap (λ (c : Bool). if c then 1 else 0) (e p ne) in
      omega (arith, rest, here)
]

pub count_few : (f : ℕ → Bool) (p n : ℕ) → count f p n ≤ n
count_few f p zero = omega arith
count_few f p (suc n) = let rest = count_few f (p + 1) n in by (f p) rest
  where
    by : (c : Bool) → count f (p + 1) n ≤ n → (if c then 1 else 0) + count f (p + 1) n ≤ suc n
    by true rest = omega (arith, rest)
    by false rest = omega (arith, rest)

-- a count before and after one value is changed
pub count_one : (f g : ℕ → Bool) (p n k : ℕ) → p ≤ k → k < p + n → ((i : ℕ) → i ≢ k → g i ≡ f i) → count g p n + (if f k then 1 else 0) ≡ count f p n + (if g k then 1 else 0)
count_one f g p zero k low high e = absurd (omega (arith, low, high))
count_one f g p (suc n) k low high e = elim (eqb_tells p k) [
  | inl same ↦
      let rest : count g (p + 1) n ≡ count f (p + 1) n = count_same g f (p + 1) n (λ i from to. let is = same.1 in e i (omega (arith, from, is))) in
      let of_g : ◌≡◌ {A = ℕ} (if g p then 1 else 0) (if g k then 1 else 0) = ap (λ i. if g i then 1 else 0) same.1 in
      let of_f : ◌≡◌ {A = ℕ} (if f p then 1 else 0) (if f k then 1 else 0) = ap (λ i. if f i then 1 else 0) same.1 in
      omega (arith, rest, of_g, of_f)
  | inr other ↦
      let ne = other.1 in
      let rest = count_one f g (p + 1) n k (omega (arith, low, ne)) (omega (arith, high)) e in
      let here : ◌≡◌ {A = ℕ} (if g p then 1 else 0) (if f p then 1 else 0) = ap (λ (c : Bool). if c then 1 else 0) (e p ne) in
      omega (arith, rest, here)
]
