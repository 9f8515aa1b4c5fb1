-- Numbers as decimal digits.
use Rattle.std.specs.Prelude.{ℕ, ◌+◌, ◌*◌, ◌-◌, nat_le, List, [], ◌∷◌, ◌==◌, ◌&&◌, Option, Some, None, option_and_then, if◌then◌else◌}
use Rattle.std.specs.Char.{is_ascii_digit}

-- the number so far with one more digit, if that is not above the most
abbrev pub with_digit : ℕ → ℕ → ℕ → Option ℕ
with_digit most n c = if is_ascii_digit c && nat_le (n * 10 + (c - 48)) most then Some (n * 10 + (c - 48)) else None

-- the number that digits make after the number so far
abbrev pub number_from : ℕ → ℕ → List ℕ → Option ℕ
number_from most n [] = Some n
number_from most n (c ∷ cs) = option_and_then (λ m. number_from most m cs) (with_digit most n c)

-- the number that a text is, in digits with no leading zero, if it is not above the most
abbrev pub number_of : ℕ → List ℕ → Option ℕ
number_of most [] = None
number_of most (c ∷ []) = number_from most 0 (c ∷ [])
number_of most (c ∷ d ∷ cs) = if c == 48 then None else number_from most 0 (c ∷ d ∷ cs)
