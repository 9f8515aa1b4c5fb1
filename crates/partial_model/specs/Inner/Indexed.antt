-- What an index of a history holds: the places of each component's entries, and the place of each stamp.
use Rattle.std.specs.Prelude.{ℕ, ◌≡◌, ◌<◌, ◌≤◌, nat_eq, List, [], length, slice_get, slice_index, Option, Some}
use Rattle.std.specs.Option.{option_map_or}
use Rattle.std.specs.HashMap as hash
use Rattle.std.specs.Global.{Vec}
use Rattle.partial_model.specs.declared.history.Applied.{Applied}
use Rattle.partial_model.specs.declared.checker.index.Index.{Index}

-- the places are those of the entries for component j among the first n of h, in order
pub record ArePlacesOf (h : List Applied) (n j : ℕ) (places : List ℕ) : Type 0 where
  pub within : (a : ℕ) → a < length places → slice_index places a < n
  pub stands : (a : ℕ) → a < length places → (e : Applied) × (slice_get h (slice_index places a) ≡ Some e) × (e.component ≡ j)
  pub whole : (k : ℕ) (e : Applied) → k < n → slice_get h k ≡ Some e → e.component ≡ j →
      (a : ℕ) × (a < length places) × (slice_index places a ≡ k)
  pub rises : (a b : ℕ) → a ≤ b → b < length places → slice_index places a ≤ slice_index places b

-- the function gives of each stamp the place of its entry among the first n of h
pub record AreStampsOf (h : List Applied) (n : ℕ) (place : ℕ → Option ℕ) : Type 0 where
  pub found : (k : ℕ) (e : Applied) → k < n → slice_get h k ≡ Some e → place e.stamp ≡ Some k
  pub stands : (t k : ℕ) → place t ≡ Some k → (e : Applied) × (k < n) × (slice_get h k ≡ Some e) × (e.stamp ≡ t)

-- the list at place j, and none after the last one
abbrev pub list_at : List (Vec ℕ) → ℕ → List ℕ
list_at lists j = option_map_or (λ v. v.items) (slice_get lists j) []

-- the lists hold the places of each component's entries among the first n of h
abbrev pub AreListsOf : List Applied → ℕ → List (Vec ℕ) → Type 0
AreListsOf h n lists = (j : ℕ) → ArePlacesOf h n j (list_at lists j)

-- the index holds the places of all entries of h
pub record IsIndexOf (h : List Applied) (i : Index) : Type 0 where
  pub places : AreListsOf h (length h) i.places.items
  pub stamps : AreStampsOf h (length h) (hash.get nat_eq i.stamps)
