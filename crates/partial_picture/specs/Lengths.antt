-- Lengths, which grow no further than the greatest number of 64 bits.
use Rattle.std.specs.Prelude.{ℕ, ◌+◌, ◌*◌, ◌-◌, ◌^◌, min}

-- the sum of two lengths, at most the greatest number
abbrev pub sum_of : ℕ → ℕ → ℕ
sum_of a b = min (a + b) (2 ^ 64 - 1)

-- a multiple of a length, at most the greatest number
abbrev pub product_of : ℕ → ℕ → ℕ
product_of a n = min (a * n) (2 ^ 64 - 1)
