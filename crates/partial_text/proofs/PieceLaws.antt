-- The pieces of a text joined again are the text, and the pieces of joined pieces are these pieces.
use Rattle.partial_text.proofs.{Common.{◌≡◌, ℕ, Bool, true, false, if◌then◌else◌, nat_eq, ◌==◌, List, [], ◌∷◌, ◌++◌, refl, sym, ap, ◌∙◌, arith, flat_map, AllByRecursion, append-nil, eqb-true, until, from, onto_first, pieces, pieces_behind, eqb_refl}, Cuts.pieces-cut, NumberLaws.HasNo}

-- each piece after a separator
abbrev pub behind_each : ℕ → List (List ℕ) → List ℕ
behind_each c ps = flat_map (λ (p : List ℕ). c ∷ p) ps

until_from_step : (b : Bool) (c x : ℕ) (xs : List ℕ) → until c xs ++ from c xs ≡ xs → (if b then [] else x ∷ until c xs) ++ (if b then x ∷ xs else from c xs) ≡ x ∷ xs
until_from_step true c x xs h = refl
until_from_step false c x xs h = ap (λ (l : List ℕ). x ∷ l) h

pub until_from : (c : ℕ) (xs : List ℕ) → until c xs ++ from c xs ≡ xs
until_from c [] = refl
until_from c (x ∷ xs) = until_from_step (x == c) c x xs (until_from c xs)

behind_onto : (c x : ℕ) (ps : List (List ℕ)) (xs : List ℕ) → behind_each c ps ≡ c ∷ xs → behind_each c (onto_first x ps) ≡ c ∷ x ∷ xs
behind_onto c x [] xs h = absurd cc
behind_onto c x (p ∷ ps) xs h = ap (λ (l : List ℕ). c ∷ x ∷ l) cc

pieces_step : (b : Bool) (c x : ℕ) (xs : List ℕ) → nat_eq x c ≡ b → behind_each c (pieces c xs) ≡ c ∷ xs → behind_each c (if b then [] ∷ pieces c xs else onto_first x (pieces c xs)) ≡ c ∷ x ∷ xs
pieces_step true c x xs same h = ap (λ (l : List ℕ). c ∷ l) (h ∙ ap (λ (y : ℕ). y ∷ xs) (sym (eqb-true x c same)))
pieces_step false c x xs same h = behind_onto c x (pieces c xs) xs h

-- each piece after a separator is the text after one
pub behind_pieces : (c : ℕ) (xs : List ℕ) → behind_each c (pieces c xs) ≡ c ∷ xs
behind_pieces c [] = refl
behind_pieces c (x ∷ xs) = pieces_step (x == c) c x xs refl (behind_pieces c xs)

from_step : (b : Bool) (c x : ℕ) (xs : List ℕ) → nat_eq x c ≡ b → behind_each c (pieces_behind c (from c xs)) ≡ from c xs →
    behind_each c (pieces_behind c (if b then x ∷ xs else from c xs)) ≡ (if b then x ∷ xs else from c xs)
from_step true c x xs same h = behind_pieces c xs ∙ ap (λ (y : ℕ). y ∷ xs) (sym (eqb-true x c same))
from_step false c x xs same h = h

pub behind_from : (c : ℕ) (xs : List ℕ) → behind_each c (pieces_behind c (from c xs)) ≡ from c xs
behind_from c [] = refl
behind_from c (x ∷ xs) = from_step (x == c) c x xs refl (behind_from c xs)

-- a text is its first piece, and each other one after a separator
pub joined_is : (c : ℕ) (xs : List ℕ) → xs ≡ until c xs ++ behind_each c (pieces_behind c (from c xs))
joined_is c xs = sym (until_from c xs) ∙ ap (λ (l : List ℕ). until c xs ++ l) (sym (behind_from c xs))

eqb_same : (c : ℕ) → nat_eq c c ≡ true
eqb_same c = grind (arith, eqb_refl)

-- ---- the pieces of joined pieces

until_end : (c : ℕ) (w : List ℕ) → HasNo c w → (until c w ≡ w) × (from c w ≡ [])
until_end c [] none = (refl, refl)
until_end c (x ∷ w) none = let h = until_end c w none.1 in (rw none.0 (ap (λ (l : List ℕ). x ∷ l) h.0), rw none.0 h.1)

until_before : (c : ℕ) (w ys : List ℕ) → HasNo c w → (until c (w ++ c ∷ ys) ≡ w) × (from c (w ++ c ∷ ys) ≡ c ∷ ys)
until_before c [] ys none = (rw eqb_same refl, rw eqb_same refl)
until_before c (x ∷ w) ys none = let h = until_before c w ys none.1 in (rw none.0 (ap (λ (l : List ℕ). x ∷ l) h.0), rw none.0 h.1)

pub until_joined : (c : ℕ) (w : List ℕ) (ps : List (List ℕ)) → HasNo c w → (until c (w ++ behind_each c ps) ≡ w) × (from c (w ++ behind_each c ps) ≡ behind_each c ps)
until_joined c w [] none = let h = until_end c w none in (ap (until c) (append-nil w) ∙ h.0, ap (from c) (append-nil w) ∙ h.1)
until_joined c w (p ∷ ps) none = until_before c w (p ++ behind_each c ps) none

pub pieces_joined : (c : ℕ) (ps : List (List ℕ)) → AllByRecursion (HasNo c) ps → pieces_behind c (behind_each c ps) ≡ ps
pieces_joined c [] none = refl
pieces_joined c (p ∷ ps) none =
    let h = until_joined c p ps none.0 in
    pieces-cut c (p ++ behind_each c ps) ∙ rw (h.0, h.1) (ap (λ (qs : List (List ℕ)). p ∷ qs) (pieces_joined c ps none.1))

-- the first piece before a separator
pub pieces_before : (c : ℕ) (w ys : List ℕ) → HasNo c w → pieces c (w ++ c ∷ ys) ≡ w ∷ pieces c ys
pieces_before c w ys none = let h = until_before c w ys none in pieces-cut c (w ++ c ∷ ys) ∙ rw (h.0, h.1) refl
