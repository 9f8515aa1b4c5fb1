-- How the texts of calls come one after the other.
use Rattle.memchr.specs.Find.{IsFirstByte, NoneBefore, Nowhere, Passes, is_byte}
use Rattle.partial_text.proofs.Common.{◌≡◌, ℕ, ◌+◌, ◌<◌, ◌≤◌, Bool, true, false, if◌then◌else◌, nat_eq, ◌&&◌, List, [], ◌∷◌, ◌++◌, length, slice_index, take, drop, None, Some, length-drop, Result, Ok, ◌-◌, refl, sym, ap, ◌∙◌, append_assoc, arith, append-nil, at_drop_more, at_drop_all, take_more, take_all, take_rest, Call, PlanError, onto_first, is_cut, call_texts, call_texts_behind, call_text_at, eq-eqb, ne_eqb, zero, suc, add-zero, get_or-drop}
use Rattle.partial_text.specs.Judging.{calls_at}

-- bytes in front of the first text
abbrev pub with_front : List ℕ → List (List ℕ) → List (List ℕ)
with_front f [] = f ∷ []
with_front f (p ∷ ps) = (f ++ p) ∷ ps

with_front-onto : (f : List ℕ) (x : ℕ) (ps : List (List ℕ)) → with_front f (onto_first x ps) ≡ with_front (f ++ x ∷ []) ps
with_front-onto f x [] = refl
with_front-onto f x (p ∷ ps) = ap (λ (q : List ℕ). q ∷ ps) (sym (append_assoc f (x ∷ []) p))

with_none : (b : Bool) (x : ℕ) (ps qs : List (List ℕ)) → with_front [] (if b then [] ∷ ps else onto_first x qs) ≡ (if b then [] ∷ ps else onto_first x qs)
with_none true x ps qs = refl
with_none false x ps [] = refl
with_none false x ps (q ∷ qs) = refl

pub with_front_nil : (xs : List ℕ) → call_texts xs ≡ with_front [] (call_texts xs)
with_front_nil [] = refl
with_front_nil (x ∷ []) = refl
with_front_nil (x ∷ y ∷ xs) = sym (with_none (nat_eq x 59 && nat_eq y 32) x (call_texts xs) (call_texts (y ∷ xs)))

cut_here : (xs : List ℕ) → is_cut xs ≡ true → call_texts xs ≡ [] ∷ call_texts_behind xs
cut_here [] h = absurd cc
cut_here (x ∷ []) h = absurd cc
cut_here (x ∷ y ∷ xs) h = rw h refl

pub cut_more : (x : ℕ) (xs : List ℕ) → is_cut (x ∷ xs) ≡ false → call_texts (x ∷ xs) ≡ onto_first x (call_texts xs)
cut_more x [] h = refl
cut_more x (y ∷ xs) h = rw h refl

-- at a semicolon with a space
pub texts_here : (xs : List ℕ) (i : ℕ) → is_cut (drop i xs) ≡ true → call_texts xs ≡ with_front (take i xs) (call_texts (drop i xs)) → call_texts xs ≡ take i xs ∷ call_texts_behind (drop i xs)
texts_here xs i h so_far =
    so_far ∙ rw (cut_here (drop i xs) h) (ap (λ (p : List ℕ). p ∷ call_texts_behind (drop i xs)) (append-nil (take i xs)))

-- one byte on
pub texts_more : (xs : List ℕ) (i : ℕ) → i < length xs → is_cut (drop i xs) ≡ false → call_texts xs ≡ with_front (take i xs) (call_texts (drop i xs)) → call_texts xs ≡ with_front (take (i + 1) xs)
    (call_texts (drop (i + 1) xs))
texts_more xs i lt h so_far =
    let not_cut : is_cut (slice_index xs i ∷ drop (i + 1) xs) ≡ false = sym (at_drop_more is_cut xs i 0 lt) ∙ h in
    so_far ∙ ap (with_front (take i xs)) (at_drop_more call_texts xs i 0 lt ∙ cut_more (slice_index xs i) (drop (i + 1) xs) not_cut) ∙ with_front-onto (take i xs) (slice_index xs i)
    (call_texts (drop (i + 1) xs)) ∙ ap (λ (f : List ℕ). with_front f (call_texts (drop (i + 1) xs))) (sym (take_more xs i 0 lt))

-- no cut begins with another byte than a semicolon
pub no_semicolon : (x : ℕ) (xs : List ℕ) → nat_eq x 59 ≡ false → is_cut (x ∷ xs) ≡ false
no_semicolon x [] h = refl
no_semicolon x (y ∷ xs) h = rw h refl

-- as many bytes on as a search for a semicolon has passed
texts_past : (xs : List ℕ) (i n : ℕ) → i + n ≤ length xs → Nowhere (Passes (is_byte 59) (drop i xs)) 0 n → call_texts xs ≡ with_front (take i xs) (call_texts (drop i xs))
    → call_texts xs ≡ with_front (take (i + n) xs) (call_texts (drop (i + n) xs))
texts_past xs i zero le none so_far = rw add-zero so_far
texts_past xs i (suc n) le none so_far =
    let not_59 : nat_eq (slice_index xs (i + n)) 59 ≡ false = ne_eqb _ _ (λ same. none n (omega arith) (omega arith) (rw get_or-drop (eq-eqb _ _ same))) in
    let not_cut : is_cut (drop (i + n) xs) ≡ false = at_drop_more is_cut xs (i + n) 0 (omega arith) ∙ no_semicolon (slice_index xs (i + n)) (drop (i + n + 1) xs) not_59 in
    let before = texts_past xs i n (omega arith) (λ k low high. none k low (omega arith)) so_far in
    let further : i + suc n ≡ i + n + 1 = omega arith in
    rw further (texts_more xs (i + n) (omega arith) not_cut before)

texts_end : (xs : List ℕ) (i : ℕ) → length xs ≤ i → call_texts xs ≡ with_front (take i xs) (call_texts (drop i xs)) → call_texts xs ≡ xs ∷ []
texts_end xs i le so_far =
    so_far ∙ ap (with_front (take i xs)) (at_drop_all call_texts xs i le) ∙ ap (λ (p : List ℕ). p ∷ []) (append-nil (take i xs) ∙ take_all i xs le)

-- at the next semicolon that a search finds
pub texts_found : (xs : List ℕ) (i k : ℕ) → i ≤ length xs → IsFirstByte (is_byte 59) (take (length xs - i) (drop i xs)) (Some k) → call_texts xs ≡ with_front (take i xs) (call_texts (drop i xs))
    → (i + k < length xs) × (call_texts xs ≡ with_front (take (i + k) xs) (call_texts (drop (i + k) xs)))
texts_found xs i k le found so_far =
    let first : NoneBefore (Passes (is_byte 59) (drop i xs)) 0 (length (drop i xs)) k = (rw take_rest at found).0 in
    let within : i + k < length xs = omega (arith, first.high, length-drop i xs) in
    (within, texts_past xs i k (omega arith) first.before so_far)

-- where a search finds no further semicolon
pub texts_not_found : (xs : List ℕ) (i : ℕ) → i ≤ length xs → IsFirstByte (is_byte 59) (take (length xs - i) (drop i xs)) None → call_texts xs ≡ with_front (take i xs) (call_texts (drop i xs))
    → call_texts xs ≡ xs ∷ []
texts_not_found xs i le none so_far =
    let nowhere : Nowhere (Passes (is_byte 59) (drop i xs)) 0 (length (drop i xs)) = rw take_rest at none in
    let left : i + length (drop i xs) ≡ length xs = omega (arith, length-drop i xs) in
    texts_end xs (i + length (drop i xs)) (omega arith) (texts_past xs i (length (drop i xs)) (omega arith) nowhere so_far)

-- after a semicolon and a space
pub behind_cut : (xs : List ℕ) → 2 ≤ length xs → call_texts_behind xs ≡ call_texts (drop 2 xs)
behind_cut [] h = absurd (omega arith)
behind_cut (x ∷ []) h = absurd (omega arith)
behind_cut (x ∷ y ∷ xs) h = refl

pub no_cut : (xs : List ℕ) → length xs < 2 → call_texts_behind xs ≡ []
no_cut [] h = refl
no_cut (x ∷ []) h = refl
no_cut (x ∷ y ∷ xs) h = absurd (omega arith)

-- what is left where a cut may stand
pub ruleset texts_behind = (behind_cut, no_cut)

-- the next call of a port line
pub next_call : (m line : ℕ) (found all : List Call) (first : List ℕ) (rest : List ℕ) (call : Call) (next behind : List ℕ) (judged : Result (List Call) PlanError) →
    call_text_at m line first ≡ Ok call → 2 ≤ length rest
    → call_texts (take (length rest - 2) (drop 2 rest)) ≡ next ∷ call_texts_behind behind → all ≡ found ++ call ∷ []
    → calls_at m line found (first ∷ call_texts_behind rest) ≡ judged → calls_at m line all (next ∷ call_texts_behind behind) ≡ judged
unfolding calls_at
next_call m line found all first rest call next behind judged is_call long split pushed so_far =
    let texts : call_texts_behind rest ≡ next ∷ call_texts_behind behind = behind_cut rest long ∙ ap call_texts (sym (take_rest rest 2)) ∙ split in
    let step : calls_at m line found (first ∷ call_texts_behind rest) ≡ calls_at m line (found ++ call ∷ []) (call_texts_behind rest) = rw is_call refl in
    ap (λ (v : List Call). calls_at m line v (next ∷ call_texts_behind behind)) pushed ∙ ap (calls_at m line (found ++ call ∷ [])) (sym texts) ∙ sym step ∙ so_far
