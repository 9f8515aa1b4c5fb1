-- How a text is cut into pieces at a byte, and joined again.
use Rattle.std.specs.Prelude.{ℕ, List, [], ◌∷◌, ◌++◌, ◌==◌, if◌then◌else◌}
use Rattle.std.specs.List.{flat_map}

-- the bytes before the first c
abbrev pub until : ℕ → List ℕ → List ℕ
until c [] = []
until c (x ∷ xs) = if x == c then [] else x ∷ until c xs

-- from the first c on
abbrev pub from : ℕ → List ℕ → List ℕ
from c [] = []
from c (x ∷ xs) = if x == c then x ∷ xs else from c xs

-- a byte in front of the first piece
abbrev pub onto_first : ℕ → List (List ℕ) → List (List ℕ)
onto_first x [] = (x ∷ []) ∷ []
onto_first x (p ∷ ps) = (x ∷ p) ∷ ps

-- the pieces between one c and the next
abbrev pub pieces : ℕ → List ℕ → List (List ℕ)
pieces c [] = [] ∷ []
pieces c (x ∷ xs) = if x == c then [] ∷ pieces c xs else onto_first x (pieces c xs)

-- the pieces after the first byte, which is a separator
abbrev pub pieces_behind : ℕ → List ℕ → List (List ℕ)
pieces_behind c [] = []
pieces_behind c (x ∷ xs) = pieces c xs

-- a piece, and each further one after a c
abbrev pub joined_pieces : ℕ → List ℕ → List (List ℕ) → List ℕ
joined_pieces c p ps = p ++ flat_map (λ q. c ∷ q) ps
