-- How the pieces of a text come one after the other.
use Rattle.memchr.specs.Find.{NoneBefore, Nowhere, Passes, is_byte}
use Rattle.partial_text.proofs.Common.{◌≡◌, ℕ, ◌+◌, ◌<◌, ◌≤◌, Bool, true, false, if◌then◌else◌, nat_eq, ◌==◌, List, [], ◌∷◌, ◌++◌, length, slice_index, take, drop, refl, sym, ap, ◌∙◌, append_assoc, arith, append-nil, at_drop_more, at_drop_all, take_more, take_all, until, from, onto_first, pieces, pieces_behind, is_nil, is_end, eqb-suc-zero, eq-eqb, ne_eqb, add-one, zero, suc}

cut_step : (b : Bool) (c x : ℕ) (xs : List ℕ) → pieces c xs ≡ until c xs ∷ pieces_behind c (from c xs)
    → (if b then [] ∷ pieces c xs else onto_first x (pieces c xs)) ≡ (if b then [] else x ∷ until c xs) ∷ pieces_behind c (if b then x ∷ xs else from c xs)
cut_step true c x xs h = refl
cut_step false c x xs h = ap (onto_first x) h

-- the first piece, and those after the first separator
pub pieces-cut : (c : ℕ) (xs : List ℕ) → pieces c xs ≡ until c xs ∷ pieces_behind c (from c xs)
pieces-cut c [] = refl
pieces-cut c (x ∷ xs) = cut_step (x == c) c x xs (pieces-cut c xs)

-- one byte on, where the byte is no separator
pub until_more : (c : ℕ) (xs : List ℕ) (i : ℕ) → i < length xs → nat_eq (slice_index xs i) c ≡ false → until c xs ≡ take i xs ++ until c (drop i xs) → until c xs ≡ take (i + 1) xs ++
    until c (drop (i + 1) xs)
until_more c xs i lt not_c so_far =
    so_far ∙ ap (λ (t : List ℕ). take i xs ++ t) (at_drop_more (until c) xs i 0 lt ∙ rw not_c refl) ∙ sym (append_assoc (take i xs) (slice_index xs i ∷ []) (until c (drop (i + 1) xs))) ∙
    ap (λ (t : List ℕ). t ++ until c (drop (i + 1) xs)) (sym (take_more xs i 0 lt))

pub from_more : (c : ℕ) (xs : List ℕ) (i : ℕ) → i < length xs → nat_eq (slice_index xs i) c ≡ false → from c xs ≡ from c (drop i xs) → from c xs ≡ from c (drop (i + 1) xs)
from_more c xs i lt not_c so_far = so_far ∙ at_drop_more (from c) xs i 0 lt ∙ rw not_c refl

-- at a separator
pub until_here : (c : ℕ) (xs : List ℕ) (i : ℕ) → i < length xs → nat_eq (slice_index xs i) c ≡ true → until c (drop i xs) ≡ []
until_here c xs i lt is_c = at_drop_more (until c) xs i 0 lt ∙ rw is_c refl

pub from_here : (c : ℕ) (xs : List ℕ) (i : ℕ) → i < length xs → nat_eq (slice_index xs i) c ≡ true → from c (drop i xs) ≡ drop i xs
from_here c xs i lt is_c = at_drop_more (from c) xs i 0 lt ∙ rw is_c (sym (at_drop_more (λ (t : List ℕ). t) xs i 0 lt))

onto_longer : (x : ℕ) (ps : List (List ℕ)) → 0 < length ps → length (onto_first x ps) ≡ length ps
onto_longer x [] h = absurd (omega arith)
onto_longer x (p ∷ ps) h = refl

pub pieces_some : (c : ℕ) (xs : List ℕ) → 0 < length (pieces c xs)
pieces_some c xs = rw pieces-cut (omega arith)

-- the pieces of what is left, one byte on
pub length-pieces-here : (c : ℕ) (xs : List ℕ) (i : ℕ) → i < length xs → nat_eq (slice_index xs i) c ≡ true → length (pieces c (drop i xs)) ≡ length (pieces c (drop (i + 1) xs)) + 1
length-pieces-here c xs i lt is_c = ap length (at_drop_more (pieces c) xs i 0 lt) ∙ rw is_c (omega arith)

pub length-pieces-more : (c : ℕ) (xs : List ℕ) (i : ℕ) → i < length xs → nat_eq (slice_index xs i) c ≡ false → length (pieces c (drop i xs)) ≡ length (pieces c (drop (i + 1) xs))
length-pieces-more c xs i lt not_c = ap length (at_drop_more (pieces c) xs i 0 lt) ∙ rw not_c (onto_longer (slice_index xs i) (pieces c (drop (i + 1) xs)) (pieces_some c (drop (i + 1) xs)))

pub pieces_here : (c : ℕ) (xs : List ℕ) (i : ℕ) → i < length xs → nat_eq (slice_index xs i) c ≡ true → until c xs ≡ take i xs ++ until c (drop i xs) → from c xs ≡ from c (drop i xs) →
    pieces c xs ≡ take i xs ∷ pieces_behind c (drop i xs)
pieces_here c xs i lt is_c front rest =
    let f : until c xs ≡ take i xs = front ∙ ap (λ (t : List ℕ). take i xs ++ t) (until_here c xs i lt is_c) ∙ append-nil (take i xs) in
    let r : from c xs ≡ drop i xs = rest ∙ from_here c xs i lt is_c in
    pieces-cut c xs ∙ rw (f, r) refl

pub pieces_end : (c : ℕ) (xs : List ℕ) (i : ℕ) → length xs ≤ i → until c xs ≡ take i xs ++ until c (drop i xs) → from c xs ≡ from c (drop i xs) → pieces c xs ≡ xs ∷ []
pieces_end c xs i le front rest =
    let f : until c xs ≡ xs = front ∙ rw (at_drop_all (until c) xs i le) (append-nil (take i xs) ∙ take_all i xs le) in
    let r : from c xs ≡ [] = rest ∙ at_drop_all (from c) xs i le in
    pieces-cut c xs ∙ rw (f, r) refl

-- how far a search has gone without a separator
past : (c : ℕ) (xs : List ℕ) (i : ℕ) → i ≤ length xs → Nowhere (Passes (is_byte c) xs) 0 i → (until c xs ≡ take i xs ++ until c (drop i xs)) × (from c xs ≡ from c (drop i xs))
past c xs zero le none = (refl, refl)
past c xs (suc i) le none =
    let so_far = past c xs i (omega arith) (λ k low high. none k low (omega arith)) in
    let not_c : nat_eq (slice_index xs i) c ≡ false = ne_eqb _ _ (λ same. none i (omega arith) (omega arith) (eq-eqb _ _ same)) in
    rw (← add-one i) (until_more c xs i (omega arith) not_c so_far.0, from_more c xs i (omega arith) not_c so_far.1)

-- the place that a search for the separator finds
pub cut_at : (c : ℕ) (xs : List ℕ) (i : ℕ) → NoneBefore (Passes (is_byte c) xs) 0 (length xs) i × Passes (is_byte c) xs i → (until c xs ≡ take i xs) × (from c xs ≡ drop i xs)
cut_at c xs i (first, is_c) =
    let so_far = past c xs i (omega arith) first.before in
    (so_far.0 ∙ ap (λ (t : List ℕ). take i xs ++ t) (until_here c xs i first.high is_c) ∙ append-nil (take i xs), so_far.1 ∙ from_here c xs i first.high is_c)

-- a search for the separator finds none
pub cut_nowhere : (c : ℕ) (xs : List ℕ) → Nowhere (Passes (is_byte c) xs) 0 (length xs) → (until c xs ≡ xs) × (from c xs ≡ [])
cut_nowhere c xs none =
    let so_far = past c xs (length xs) (omega arith) none in
    let nothing : drop (length xs) xs ≡ [] = at_drop_all (λ (t : List ℕ). t) xs (length xs) (omega arith) in
    rw (so_far.0, so_far.1, nothing) (append-nil (take (length xs) xs) ∙ take_all (length xs) xs (omega arith), refl)

some_length : {A : Type 0} (x : A) (xs : List A) → nat_eq (length (x ∷ xs)) 0 ≡ false
some_length x xs = eqb-suc-zero (length xs)

pub is_nil_behind : (c : ℕ) (xs : List ℕ) → is_nil (pieces_behind c xs) ≡ nat_eq (length xs) 0
is_nil_behind c [] = refl
is_nil_behind c (x ∷ xs) = rw pieces-cut (sym (some_length x xs))

first_some : (b : Bool) (x : ℕ) (ps qs : List (List ℕ)) → 0 < length ps → is_end (if b then [] ∷ ps else onto_first x qs) ≡ false
first_some true x [] qs h = absurd (omega arith)
first_some true x (p ∷ ps) qs h = refl
first_some false x ps [] h = refl
first_some false x ps (q ∷ []) h = refl
first_some false x ps (q ∷ r ∷ qs) h = refl

-- no line follows where no byte does
pub is_end_pieces : (c : ℕ) (xs : List ℕ) → is_end (pieces c xs) ≡ nat_eq (length xs) 0
is_end_pieces c [] = refl
is_end_pieces c (x ∷ xs) = first_some (x == c) x (pieces c xs) (pieces c xs) (pieces_some c xs) ∙ sym (some_length x xs)
