-- A text is read as a number exactly where it is the digits of that number.
use Rattle.partial_text.proofs.Common.{◌≡◌, ℕ, zero, suc, ◌+◌, ◌*◌, ◌-◌, ◌/◌, ◌%◌, ◌^◌, ◌<◌, ◌≤◌, ◌≢◌, Bool, true, false, if◌then◌else◌, nat_eq, ◌==◌, nat_le, ◌&&◌, List, [], ◌∷◌, ◌++◌, length, slice_index, Option, None, Some, refl, sym, ap, ◌∙◌, append_assoc, arith, decimal, option_and_then, AllByRecursion, append-nil, eqb-false, ne_eqb, leb-true, le-leb, with_digit, number_from, number_of, decimal_digit, decimal_step, decimal_by_steps, first_decimal, decimal_nonempty}
use Rattle.std.specs.Char.{is_ascii_digit}

pub and_both : (a b : Bool) → (a && b) ≡ true → (a ≡ true) × (b ≡ true)
and_both true b e = (refl, e)
and_both false b e = absurd cc

pub both_and : (a b : Bool) → a ≡ true → b ≡ true → (a && b) ≡ true
both_and a b p q = rw (p, q) refl

some_if : {A : Type 0} (b : Bool) (x y : A) → (if b then Some x else None) ≡ Some y → (b ≡ true) × (x ≡ y)
some_if true x y e = (refl, cc)
some_if false x y e = absurd cc

some_unless : {A : Type 0} (b : Bool) (o : Option A) (y : A) → (if b then None else o) ≡ Some y → (b ≡ false) × (o ≡ Some y)
some_unless true o y e = absurd cc
some_unless false o y e = (refl, e)

bound : {A B : Type 0} (f : A → Option B) (o : Option A) (y : B) → option_and_then f o ≡ Some y → (x : A) × (o ≡ Some x) × (f x ≡ Some y)
bound f None y e = absurd cc
bound f (Some x) y e = (x, refl, e)

same_some : {A : Type 0} (x y : A) → Some x ≡ Some y → x ≡ y
same_some x y e = cc

-- what one digit more says
digit_taken : (most n c m : ℕ) → with_digit most n c ≡ Some m → (48 ≤ c) × (c ≤ 57) × (m ≡ n * 10 + (c - 48)) × (m ≤ most)
digit_taken most n c m e =
    let t = some_if (is_ascii_digit c && nat_le (n * 10 + (c - 48)) most) (n * 10 + (c - 48)) m e in
    let r = and_both (is_ascii_digit c) (nat_le (n * 10 + (c - 48)) most) t.0 in
    let d = and_both (nat_le 48 c) (nat_le c 57) r.0 in
    let within = leb-true (n * 10 + (c - 48)) most r.1 in
    (leb-true 48 c d.0, leb-true c 57 d.1, sym t.1, omega (arith, within, t.1))

digit_given : (most n d m : ℕ) → d < 10 → n * 10 + d ≡ m → m ≤ most → with_digit most n (48 + d) ≡ Some m
digit_given most n d m lt is le =
    let digit : is_ascii_digit (48 + d) ≡ true = both_and (nat_le 48 (48 + d)) (nat_le (48 + d) 57) (le-leb 48 (48 + d) (omega arith)) (le-leb (48 + d) 57 (omega arith)) in
    let made : n * 10 + (48 + d - 48) ≡ m = omega arith in
    rw (digit, made, le-leb m most le) refl

from_ok : (most n : ℕ) (cs : List ℕ) (m : ℕ) → most < 2 ^ 64 → 0 < n → n ≤ most → number_from most n cs ≡ Some m → (decimal m ≡ decimal n ++ cs) × (m ≤ most)
from_ok most n [] m small some le e =
    let same = same_some n m e in (ap decimal (sym same) ∙ sym (append-nil (decimal n)), omega (arith, same))
from_ok most n (c ∷ cs) m small some le e =
    let b = bound (λ (k : ℕ). number_from most k cs) (with_digit most n c) m e in
    let k = b.0 in
    let t = digit_taken most n c k b.1 in
    let rest = from_ok most k cs m small (omega (arith, t.2)) t.3 b.2 in
    let tens : k / 10 ≡ n = omega (arith, t.0, t.1, t.2) in
    let last : 48 + k % 10 ≡ c = omega (arith, t.0, t.1, t.2) in
    let step : decimal k ≡ decimal n ++ c ∷ [] = decimal_step k (omega (arith, t.2)) (omega (arith, t.3)) ∙ ap (λ (j : ℕ). decimal j ++ (48 + k % 10) ∷ []) tens ∙
    ap (λ (j : ℕ). decimal n ++ j ∷ []) last in
    (rest.0 ∙ ap (λ (l : List ℕ). l ++ cs) step ∙ append_assoc (decimal n) (c ∷ []) cs, rest.1)

-- a text that is read as a number is its digits
pub number_ok : (most : ℕ) (ds : List ℕ) (m : ℕ) → most < 2 ^ 64 → number_of most ds ≡ Some m → (ds ≡ decimal m) × (m ≤ most)
number_ok most [] m small e = absurd cc
number_ok most (c ∷ []) m small e =
    let b = bound (λ (k : ℕ). number_from most k []) (with_digit most 0 c) m e in
    let t = digit_taken most 0 c b.0 b.1 in
    let same = same_some b.0 m b.2 in
    let is : 48 + m ≡ c = omega (arith, t.0, t.1, t.2, same) in
    (sym (decimal_digit m (omega (arith, t.0, t.1, t.2, same)) ∙ ap (λ (j : ℕ). j ∷ []) is), omega (arith, t.3, same))
number_ok most (c ∷ d ∷ cs) m small e =
    let u = some_unless (c == 48) (number_from most 0 (c ∷ d ∷ cs)) m e in
    let b = bound (λ (k : ℕ). number_from most k (d ∷ cs)) (with_digit most 0 c) m u.1 in
    let k = b.0 in
    let t = digit_taken most 0 c k b.1 in
    let not_zero : c ≢ 48 = eqb-false c 48 u.0 in
    let r = from_ok most k (d ∷ cs) m small (omega (arith, t.0, t.1, t.2, not_zero)) t.3 b.2 in
    let is : 48 + k ≡ c = omega (arith, t.0, t.1, t.2) in
    let first : decimal k ≡ c ∷ [] = decimal_digit k (omega (arith, t.0, t.1, t.2)) ∙ ap (λ (j : ℕ). j ∷ []) is in
    (sym (r.0 ∙ ap (λ (l : List ℕ). l ++ d ∷ cs) first), r.1)

append_by : (most : ℕ) (xs ys : List ℕ) (o : Option ℕ) → ((m : ℕ) → number_from most m (xs ++ ys) ≡ option_and_then (λ (k : ℕ). number_from most k ys) (number_from most m xs))
    → option_and_then (λ (m : ℕ). number_from most m (xs ++ ys)) o ≡ option_and_then (λ (m : ℕ). number_from most m ys) (option_and_then (λ (m : ℕ). number_from most m xs) o)
append_by most xs ys None h = refl
append_by most xs ys (Some m) h = h m

from_append : (most n : ℕ) (xs ys : List ℕ) → number_from most n (xs ++ ys) ≡ option_and_then (λ (m : ℕ). number_from most m ys) (number_from most n xs)
from_append most n [] ys = refl
from_append most n (x ∷ xs) ys = append_by most xs ys (with_digit most n x) (λ m. from_append most m xs ys)

from_again : (most n : ℕ) → n < 2 ^ 64 → n ≤ most → number_from most 0 (decimal n) ≡ Some n
from_again most n small =
    decimal_by_steps (λ (m : ℕ) (ds : List ℕ). m ≤ most → number_from most 0 ds ≡ Some m) (λ m lt le. rw (digit_given most 0 m m lt (omega arith) le) refl) (λ m ds ten so_far le.
    let before : number_from most 0 ds ≡ Some (m / 10) = so_far (omega arith) in
    from_append most 0 ds ((48 + m % 10) ∷ []) ∙ rw (before, digit_given most (m / 10) (m % 10) m (omega arith) (omega arith) le) refl) n small

number_of_is : (most : ℕ) (ds : List ℕ) (n : ℕ) → 0 < length ds → (2 ≤ length ds → slice_index ds 0 ≢ 48) → number_from most 0 ds ≡ Some n → number_of most ds ≡ Some n
number_of_is most [] n some first e = absurd (omega arith)
number_of_is most (c ∷ []) n some first e = e
number_of_is most (c ∷ d ∷ cs) n some first e = rw (ne_eqb c 48 (first (omega arith))) e

-- the digits of a number are read as it
pub number_again : (most n : ℕ) → most < 2 ^ 64 → n ≤ most → number_of most (decimal n) ≡ Some n
number_again most zero small le =
    let zero_text = decimal_digit 0 (omega arith) in
    number_of_is most (decimal 0) 0 (decimal_nonempty 0 (omega arith)) (λ long. absurd (omega (arith, ap length zero_text))) (from_again most 0 (omega arith) le)
number_again most (suc n) small le =
    number_of_is most (decimal (suc n)) (suc n) (decimal_nonempty (suc n) (omega arith)) (λ long same. omega (arith, first_decimal (suc n) (omega arith) (omega arith)))
    (from_again most (suc n) (omega arith) le)

-- no byte of the text is c
abbrev pub HasNo : ℕ → List ℕ → Type 0
HasNo c xs = AllByRecursion (λ (x : ℕ). nat_eq x c ≡ false) xs

pub HasNo-append : (c : ℕ) (xs ys : List ℕ) → HasNo c xs → HasNo c ys → HasNo c (xs ++ ys)
HasNo-append c [] ys p q = q
HasNo-append c (x ∷ xs) ys p q = (p.0, HasNo-append c xs ys p.1 q)

-- c is no digit
pub record IsNoDigit (c : ℕ) : Type 0 where
  pub apart : (d : ℕ) → d < 10 → 48 + d ≢ c

pub HasNo-decimal : (c n : ℕ) → IsNoDigit c → n < 2 ^ 64 → HasNo c (decimal n)
HasNo-decimal c n none small =
    decimal_by_steps (λ (m : ℕ) (ds : List ℕ). HasNo c ds) (λ m lt. (ne_eqb (48 + m) c (none.apart m lt), tt))
    (λ m ds ten so_far. HasNo-append c ds ((48 + m % 10) ∷ []) so_far (ne_eqb (48 + m % 10) c (none.apart (m % 10) (omega arith)), tt)) n small
