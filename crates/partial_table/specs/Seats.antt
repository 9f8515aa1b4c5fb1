-- Seats whose views are lists of ports.
use Rattle.std.specs.Prelude.{ℕ, zero, suc, ◌+◌, List, [], ◌∷◌, ◌++◌}

-- the ports of all views
abbrev pub flatten : {X : Type 0} → List (List X) → List X
flatten [] = []
flatten (v ∷ vs) = v ++ flatten vs

-- the first port of a view, as a view of its own
abbrev pub first_port : {X : Type 0} → List X → List X
first_port [] = []
first_port (x ∷ xs) = x ∷ []

-- the ports of a view but the first
abbrev pub further_ports : {X : Type 0} → List X → List X
further_ports [] = []
further_ports (x ∷ xs) = xs

-- the ports of n numbers, from k on
abbrev pub numbered : {X : Type 0} → (ℕ → X) → ℕ → ℕ → List X
numbered port k zero = []
numbered port k (suc n) = port k ∷ numbered port (k + 1) n
