-- What reads and writes in a row do to the known bytes.
use Rattle.partial_text.proofs.Common.{◌≡◌, ℕ, ◌+◌, ◌-◌, ◌≤◌, List, [], ◌++◌, length, take, drop, Option, None, Some, sym, ap, ◌∙◌, append_assoc, arith, append-nil, take_rest, drop-drop, length-drop, Appends}
use Rattle.std.proofs.Math.Seq.{take-add}

pub Appends_none : (a : Option (List ℕ)) → Appends a a []
Appends_none None = tt
Appends_none (Some x) = sym (append-nil x)

pub Appends_then : (a b c : Option (List ℕ)) (xs ys : List ℕ) → Appends a b xs → Appends b c ys → Appends a c (xs ++ ys)
Appends_then None b c xs ys p q = tt
Appends_then (Some x) None c xs ys p q = absurd p
Appends_then (Some x) (Some y) None xs ys p q = absurd q
Appends_then (Some x) (Some y) (Some z) xs ys p q = q ∙ ap (λ (l : List ℕ). l ++ ys) p ∙ append_assoc x xs ys

-- a write took n more bytes of the text
pub written_more : (a b c : Option (List ℕ)) (text rest : List ℕ) (n : ℕ) → length rest ≤ length text → rest ≡ drop (length text - length rest) text →
    Appends a b (take (length text - length rest) text) → n ≤ length rest → Appends b c (take n rest)
    → (left : List ℕ) → left ≡ take (length rest - n) (drop n rest) → (length left ≤ length text) × (left ≡ drop (length text - length left) text) × Appends a c (take (length text - length left) text)
written_more a b c text rest n short is_rest written fits more left is_left =
    let whole : left ≡ drop n rest = is_left ∙ take_rest rest n in
    let len : length left ≡ length rest - n = ap length whole ∙ length-drop n rest in
    let k = length text - length rest in
    let place : length text - length left ≡ k + n = omega arith in
    let dropped : left ≡ drop (k + n) text = whole ∙ ap (drop n) is_rest ∙ drop-drop n k text in
    let taken : take (k + n) text ≡ take k text ++ take n rest = take-add k n text ∙ ap (λ (t : List ℕ). take k text ++ take n t) (sym is_rest) in
    (omega arith, rw place dropped, rw (place, taken) (Appends_then a b c (take k text) (take n rest) written more))
