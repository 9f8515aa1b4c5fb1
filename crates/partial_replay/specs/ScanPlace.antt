-- Where in the history a finished scan has its place: what its search keeps, and the least prefix that shows its values.
use Rattle.std.specs.Prelude.{ℕ, ◌≡◌, ◌==◌, ◌<◌, ◌≤◌, Bool, not, false, List, length, map, take, Option, Some, None, slice_index, slice_index_or, slice_set}
use Rattle.partial_model.specs.declared.history.Applied.{Applied}
use Rattle.partial_model.specs.declared.history.Opening.{Opening}
use Rattle.partial_model.specs.History.{value_of as value_after}
use Rattle.partial_words.specs.Record.{value_word, prev_of, record_value}

-- the value of each component after the first n entries
abbrev pub values_after : Opening → List Applied → ℕ → ℕ → ℕ
values_after o h n j = value_after o (take n h) j

-- the value of each component in the words
abbrev pub values_now : List ℕ → ℕ → ℕ
values_now words j = record_value words (slice_index words j)

-- whether a component that is to have a value, if any, has another one
abbrev pub is_other : Option ℕ → ℕ → Bool
is_other None x = false
is_other (Some v) x = not (v == x)

-- the components that have another value than they are to have are marked, and no others
abbrev pub AreMarked : List (Option ℕ) → List Bool → (ℕ → ℕ) → Type 0
AreMarked wanted marks value = (j : ℕ) → slice_index_or marks j false ≡ is_other (slice_index_or wanted j None) (value j)

-- each component has the value that it is to have
abbrev pub AllHave : List (Option ℕ) → (ℕ → ℕ) → Type 0
AllHave wanted value = (j v : ℕ) → slice_index_or wanted j None ≡ Some v → v ≡ value j

-- the components of the first n positions are to have the values of such positions
pub record AreWanted (wanted : List (Option ℕ)) (components values : List ℕ) (n : ℕ) : Type 0 where
  pub each : (k : ℕ) → k < n → (v : ℕ) × (slice_index_or wanted (slice_index components k) None ≡ Some v)
  pub only : (j v : ℕ) → slice_index_or wanted j None ≡ Some v →
      (k : ℕ) × (k < n) × (slice_index components k ≡ j) × (slice_index values k ≡ v)

-- the word of each component names a record within the words
abbrev pub HasRecords : List ℕ → ℕ → Type 0
HasRecords words room = (j : ℕ) → j < room → (j < length words) × (value_word (slice_index words j) < length words)

-- the record of an entry, and the one before it, lie within the words
pub record HasRecord (words : List ℕ) (room : ℕ) (e : Applied) : Type 0 where
  pub component : e.component < room
  pub own : e.stamp < length words
  pub before : value_word (prev_of words e.stamp) < length words

-- the first n entries show the values at the positions
abbrev pub ShowsValues : Opening → List Applied → List ℕ → List ℕ → ℕ → Type 0
ShowsValues o h components values n = values ≡ map (values_after o h n) components

-- the least number from a begin to an end of which that holds
pub record IsLeast (Holds : ℕ → Type 0) (began end n : ℕ) : Type 0 where
  pub behind : began ≤ n
  pub within : n ≤ end
  pub holds : Holds n
  pub least : (i : ℕ) → began ≤ i → i < n → ¬ Holds i

-- the marks before an entry, when its component had that value before
abbrev pub marks_before : Option ℕ → List Bool → ℕ → ℕ → List Bool
marks_before None marks j x = marks
marks_before (Some v) marks j x = slice_set marks j (not (v == x))

-- what is to have a value is a component
abbrev pub AreWantedComponents : Opening → List (Option ℕ) → Type 0
AreWantedComponents o wanted = (j v : ℕ) → slice_index_or wanted j None ≡ Some v → j < length o.values

-- what is still to have a value stands at a position from the k-th on
abbrev pub IsLeft : List (Option ℕ) → List ℕ → ℕ → Type 0
IsLeft wanted components k =
    (j v : ℕ) → slice_index_or wanted j None ≡ Some v → (i : ℕ) × (k ≤ i) × (i < length components) × (slice_index components i ≡ j)

-- only what is to have a value is marked
abbrev pub AreMarksOf : List (Option ℕ) → List Bool → Type 0
AreMarksOf wanted marks = (j : ℕ) → slice_index_or wanted j None ≡ None → slice_index_or marks j false ≡ false

-- nothing is to have a value, and nothing is marked
pub record IsEmpty (wanted : List (Option ℕ)) (marks : List Bool) : Type 0 where
  pub room : length wanted ≡ length marks
  pub none : (j : ℕ) → slice_index_or wanted j None ≡ None
  pub clear : (j : ℕ) → slice_index_or marks j false ≡ false
