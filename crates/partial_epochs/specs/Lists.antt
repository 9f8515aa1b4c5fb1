-- Lists of a function's values, functions with one value changed, and counts.
use Rattle.std.specs.Prelude.{ℕ, zero, suc, ◌+◌, ◌==◌, Bool, List, [], ◌∷◌, if◌then◌else◌}

-- a function's values at p, p + 1 and so on, n of them
abbrev pub list_of : {A : Type 0} → (ℕ → A) → ℕ → ℕ → List A
list_of f p zero = []
list_of f p (suc n) = f p ∷ list_of f (p + 1) n

-- the function with x at k
abbrev pub put : {A : Type 0} → ℕ → A → (ℕ → A) → ℕ → A
put k x f i = if i == k then x else f i

-- of how many of the numbers p, p + 1 and so on, n of them, it is so
abbrev pub count : (ℕ → Bool) → ℕ → ℕ → ℕ
count f p zero = 0
count f p (suc n) = (if f p then 1 else 0) + count f (p + 1) n
