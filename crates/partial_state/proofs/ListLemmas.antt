-- One element of a list in the place of another.
use Rattle.partial_state.proofs.Common.{ℕ, zero, suc, map, ◌∙◌, ◌≡◌, ◌<◌, ◌≤◌, ◌++◌, List, [], ◌∷◌, length, refl, sym, ap, subst, Some, slice_get, append_assoc, arith, length_push, place_below, slice_get_last, AllByRecursion, EachTwo}
pub use Rattle.partial_model.proofs.AllLemmas.{all_before, all_at, all_after, all_join, all_weaker, all_append, all_front, all_back, all_map, all_unmap}

module _ {A : Type 0} (R : A → A → Type 0) (turn : (x y : A) → R x y → R y x) where
  -- R holds of an element and each other
  pub two_before : (before : List A) (x : A) (after : List A) → EachTwo R (before ++ x ∷ after) → AllByRecursion (R x) before
  two_before [] x after w = tt
  two_before (b ∷ before) x after w = (turn b x (all_at (R b) before x after w.0), two_before before x after w.1)

  pub two_after : (before : List A) (x : A) (after : List A) → EachTwo R (before ++ x ∷ after) → AllByRecursion (R x) after
  two_after [] x after w = w.0
  two_after (b ∷ before) x after w = two_after before x after w.1

  pub two_join : (before : List A) (x y : A) (after : List A) → EachTwo R (before ++ x ∷ after) → AllByRecursion (R y) before → AllByRecursion (R y) after → EachTwo R (before ++ y ∷ after)
  two_join [] x y after w p q = (q, w.1)
  two_join (b ∷ before) x y after w p q = (all_join (R b) before y after (all_before (R b) before x after w.0) (turn y b p.0) (all_after (R b) before x after w.0), two_join before x y after w.1 p.1 q)

pub length_same : {A : Type 0} (before : List A) (x y : A) (after : List A) → length (before ++ y ∷ after) ≡ length (before ++ x ∷ after)
length_same [] x y after = refl
length_same (b ∷ before) x y after = ap suc (length_same before x y after)

pub two_back : {A : Type 0} (R : A → A → Type 0) (xs ys : List A) → EachTwo R (xs ++ ys) → EachTwo R ys
two_back R [] ys w = w
two_back R (x ∷ xs) ys w = two_back R xs ys w.1

pub two_front : {A : Type 0} (R : A → A → Type 0) (xs ys : List A) → EachTwo R (xs ++ ys) → EachTwo R xs
two_front R [] ys w = tt
two_front R (x ∷ xs) ys w = (all_front (R x) xs ys w.0, two_front R xs ys w.1)

pub two_across : {A : Type 0} (R : A → A → Type 0) (xs ys : List A) → EachTwo R (xs ++ ys) → AllByRecursion (λ x. AllByRecursion (R x) ys) xs
two_across R [] ys w = tt
two_across R (x ∷ xs) ys w = (all_back (R x) xs ys w.0, two_across R xs ys w.1)

pub map_same : {A B : Type 0} (g h : A → B) (xs : List A) → AllByRecursion (λ x. g x ≡ h x) xs → map g xs ≡ map h xs
map_same g h [] w = refl
map_same g h (x ∷ xs) w = ap (λ y. y ∷ map g xs) w.0 ∙ ap (λ (l : List _). h x ∷ l) (map_same g h xs w.1)

-- xs is ys with x added at some place
abbrev pub Adds : {A : Type 0} → A → List A → List A → Type 0
Adds x ys xs = (cs : List _) × (bs : List _) × (ys ≡ cs ++ bs) × (xs ≡ cs ++ x ∷ bs)

pub adds_behind : {A : Type 0} (x : A) (zs ys xs : List A) → Adds x ys xs → Adds x (zs ++ ys) (zs ++ xs)
adds_behind x zs ys xs w = (zs ++ w.0, w.1, ap (λ (l : List _). zs ++ l) w.2 ∙ sym (append_assoc zs w.0 w.1), ap (λ (l : List _). zs ++ l) w.3 ∙ sym (append_assoc zs w.0 (x ∷ w.1)))

pub adds_before : {A : Type 0} (x : A) (zs ys xs : List A) → Adds x ys xs → Adds x (ys ++ zs) (xs ++ zs)
adds_before x zs ys xs w = (w.0, w.1 ++ zs, ap (λ (l : List _). l ++ zs) w.2 ∙ append_assoc w.0 w.1 zs, ap (λ (l : List _). l ++ zs) w.3 ∙ append_assoc w.0 (x ∷ w.1) zs)

-- what holds of all holds of all where one is taken away, and where one is added
pub all_less : {A : Type 0} (P : A → Type 0) (x : A) (ys xs : List A) → Adds x ys xs → AllByRecursion P xs → AllByRecursion P ys
all_less P x ys xs w all =
    let t = subst (AllByRecursion P) w.3 all in
    subst (AllByRecursion P) (sym w.2) (all_append P w.0 w.1 (all_before P w.0 x w.1 t) (all_after P w.0 x w.1 t))

pub all_more : {A : Type 0} (P : A → Type 0) (x : A) (ys xs : List A) → Adds x ys xs → P x → AllByRecursion P ys → AllByRecursion P xs
all_more P x ys xs w p all =
    let t = subst (AllByRecursion P) w.2 all in
    subst (AllByRecursion P) (sym w.3) (all_join P w.0 x w.1 (all_front P w.0 w.1 t) p (all_back P w.0 w.1 t))

-- R holds of each two where one is taken away, and where one is added
pub two_take : {A : Type 0} (R : A → A → Type 0) → ((x y : A) → R x y → R y x) → (x : A) (ys xs : List A) → Adds x ys xs → EachTwo R xs → EachTwo R ys × AllByRecursion (R x) ys
two_take R turn x ys xs w two =
    let t = subst (EachTwo R) w.3 two in
    let rest = two_less R w.0 x w.1 t in
    (subst (EachTwo R) (sym w.2) rest, subst (AllByRecursion (R x)) (sym w.2) (all_append (R x) w.0 w.1 (two_before R turn w.0 x w.1 t) (two_after R turn w.0 x w.1 t)))
  where
    two_less : {A : Type 0} (R : A → A → Type 0) (cs : List A) (x : A) (bs : List A) → EachTwo R (cs ++ x ∷ bs) → EachTwo R (cs ++ bs)
    two_less R [] x bs w = w.1
    two_less R (a ∷ cs) x bs w = (all_append (R a) cs bs (all_before (R a) cs x bs w.0) (all_after (R a) cs x bs w.0), two_less R cs x bs w.1)

pub two_put : {A : Type 0} (R : A → A → Type 0) → ((x y : A) → R x y → R y x) → (x : A) (ys xs : List A) → Adds x ys xs → EachTwo R ys → AllByRecursion (R x) ys → EachTwo R xs
two_put R turn x ys xs w two all =
    subst (EachTwo R) (sym w.3) (two_more R turn w.0 x w.1 (subst (EachTwo R) w.2 two) (subst (AllByRecursion (R x)) w.2 all))
  where
    two_more : {A : Type 0} (R : A → A → Type 0) → ((x y : A) → R x y → R y x) → (cs : List A) (x : A) (bs : List A) → EachTwo R (cs ++ bs) → AllByRecursion (R x) (cs ++ bs) → EachTwo R (cs ++ x ∷ bs)
    two_more R turn [] x bs w all = (all, w)
    two_more R turn (a ∷ cs) x bs w all = (all_join (R a) cs x bs (all_front (R a) cs bs w.0) (turn x a all.0) (all_back (R a) cs bs w.0), two_more R turn cs x bs w.1 all.1)

-- an element of a longer list, at a place of the old one
pub found_before : {A : Type 0} (h es : List A) (k : ℕ) (e : A) → slice_get (h ++ es) k ≡ Some e → k < length h → slice_get h k ≡ Some e
found_before [] es k e s below = absurd (omega (arith, below))
found_before (x ∷ h) es zero e s below = s
found_before (x ∷ h) es (suc k) e s below = found_before h es k e s (omega (arith, below))

-- one element more: from the old length on it is that one
pub found_last : {A : Type 0} (P : ℕ → A → Type 0) (h : List A) (x : A) (k : ℕ) (e : A) → P (length h) x → slice_get (h ++ x ∷ []) k ≡ Some e → length h ≤ k → P k e
found_last P h x k e p s from =
    let below = place_below (h ++ x ∷ []) k e s in
    let longer = length_push h x in
    let is : length h ≡ k = omega (arith, below, longer, from) in
    let found : slice_get (h ++ x ∷ []) k ≡ Some x = subst (λ n. slice_get (h ++ x ∷ []) n ≡ Some x) is (slice_get_last h x) in
    let same : Some x ≡ Some e = sym found ∙ s in
    let same' : x ≡ e = cc in
    subst (λ n. P n e) is (subst (P (length h)) same' p)
