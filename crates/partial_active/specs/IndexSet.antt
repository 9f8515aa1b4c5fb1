-- A list of indices without repeats, and the marks of those that it has.
use Rattle.std.specs.Prelude.{ℕ, ◌≡◌, ◌<◌, ◌≤◌, ◌==◌, Bool, false, List, [], ◌∷◌, ◌++◌, length, slice_index, slice_index_or, count_by, nat_eq, if◌then◌else◌}
use Rattle.std.specs.List.{IsDistinct, list_any}

-- the indices in order, and the number below which they all are
pub record IndexList : Type 0 where
  pub limit : ℕ
  pub items : List ℕ

-- whether the index is in the list
abbrev pub has_index : List ℕ → ℕ → Bool
has_index items index = list_any (λ i. i == index) items

-- the list with the index at its end, unless it is there already
abbrev pub with_index : List ℕ → ℕ → List ℕ
with_index items index = if has_index items index then items else items ++ index ∷ []

-- an index is marked exactly when it is in the list, and as many are marked as the list has
pub record IsMarked (items : List ℕ) (marks : List Bool) (room : ℕ) : Type 0 where
  pub marked : (j : ℕ) → j < length marks → slice_index_or marks j false ≡ has_index items j
  pub below : (k : ℕ) → k < length items → slice_index items k < length marks
  pub count : count_by (λ b. b) marks ≡ length items
  pub fits : length marks ≤ room

-- indices without repeats, below a number
pub record AreIndices (n : ℕ) (l : List ℕ) : Type 0 where
  pub each : (k : ℕ) → k < length l → slice_index l k < n
  pub distinct : IsDistinct nat_eq l
