-- The words of a list of vacated slots, and what is read back from them.
use Rattle.std.specs.Prelude.{ℕ, ◌≡◌, ◌+◌, ◌*◌, ◌<◌, List, ◌∷◌, length, slice_index, slice_index_or}
use Rattle.std.specs.List.{flat_map}
use Rattle.partial_words.specs.Record.{StandsAt, pair_words}

-- a list: how many intervals there are, and the lowest and the highest slot of each
abbrev pub list_block : List (ℕ × ℕ) → List ℕ
list_block intervals = length intervals ∷ flat_map pair_words intervals

-- how many words a list of n intervals has
abbrev pub list_size : ℕ → ℕ
list_size n = 1 + 2 * n

-- the first word of the intervals of the list at that place
abbrev pub intervals_word : ℕ → ℕ
intervals_word at = at + 1

-- the word of the lowest slot of interval k of the list at that place
abbrev pub low_word : ℕ → ℕ → ℕ
low_word at k = at + 1 + 2 * k

-- the word of its highest slot
abbrev pub high_word : ℕ → ℕ → ℕ
high_word at k = at + 2 + 2 * k

-- how many intervals the list at that place has, as it stands in the words
abbrev pub list_len : List ℕ → ℕ → ℕ
list_len words at = slice_index words at

-- interval k of it, as it stands in the words
abbrev pub interval : List ℕ → ℕ → ℕ → ℕ × ℕ
interval words at k = (slice_index words (low_word at k), slice_index words (high_word at k))

-- what a list's writer gave, its readers read back
pub record ReadsBackList (words : List ℕ) (at : ℕ) (intervals : List (ℕ × ℕ)) : Type 0 where
  pub count : list_len words at ≡ length intervals
  pub each : (k : ℕ) (d : ℕ × ℕ) → k < length intervals → interval words at k ≡ slice_index_or intervals k d

-- every list that stands in the words is read back
abbrev pub ListsReadBack : Type 0
ListsReadBack = (words : List ℕ) (at : ℕ) (intervals : List (ℕ × ℕ)) → StandsAt words at (list_block intervals) →
    ReadsBackList words at intervals
