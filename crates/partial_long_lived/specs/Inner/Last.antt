-- The last values in the words of a memory.
use Rattle.std.specs.Prelude.{ℕ, ◌≡◌, ◌+◌, ◌%◌, ◌<◌, List, length, slice_index}
use Rattle.partial_words.specs.Record.{value_word}
use Rattle.partial_epochs.specs.Layout.{Plan, arena_limit, base, current_word, unsealed}

-- the arena that the current word names
abbrev pub arena_now : List ℕ → ℕ
arena_now words = slice_index words current_word % arena_limit

-- the word of component j there
abbrev pub component_now : Plan → List ℕ → ℕ → ℕ
component_now e words j = base e (arena_now words) + j

-- the word that holds the value of that component: in its record, which the component word names
abbrev pub value_now : Plan → List ℕ → ℕ → ℕ
value_now e words j = base e (arena_now words) + value_word (unsealed (slice_index words (component_now e words j)))

-- these words are there
pub record HaveLast (e : Plan) (words : List ℕ) : Type 0 where
  pub some : 0 < length words
  pub arena : arena_now words < e.arenas
  pub components : (j : ℕ) → j < e.sizes.m → component_now e words j < length words
  pub values : (j : ℕ) → j < e.sizes.m → value_now e words j < length words

-- these are the values
pub record ReadsLast (e : Plan) (words values : List ℕ) : Type 0 where
  pub count : length values ≡ e.sizes.m
  pub each : (j : ℕ) → j < e.sizes.m → slice_index values j ≡ slice_index words (value_now e words j)
