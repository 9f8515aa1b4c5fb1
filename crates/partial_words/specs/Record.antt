-- The words of a record, and how a block stands in the words.
use Rattle.std.specs.Prelude.{ℕ, ◌≡◌, ◌+◌, ◌*◌, ◌<◌, List, [], ◌∷◌, length, slice_index, slice_index_or}
use Rattle.std.specs.List.{flat_map}

-- an index and its value
abbrev pub pair_words : ℕ × ℕ → List ℕ
pair_words pair = pair.0 ∷ pair.1 ∷ []

-- a view: how many pairs there are, and the pairs
abbrev pub view_block : List (ℕ × ℕ) → List ℕ
view_block pairs = length pairs ∷ flat_map pair_words pairs

-- a record: the record before it, its value, its view, and then the words of a view of its own
abbrev pub record_block : ℕ → ℕ → ℕ → List (ℕ × ℕ) → List ℕ
record_block prev value view [] = prev ∷ value ∷ view ∷ []
record_block prev value view (pair ∷ pairs) = prev ∷ value ∷ view ∷ view_block (pair ∷ pairs)

-- how many words a view of n pairs has
abbrev pub view_size : ℕ → ℕ
view_size n = 1 + 2 * n

-- the words of a record without a view of its own
abbrev pub plain_record_size : ℕ
plain_record_size = 3

-- the words of a record with a view of n pairs
abbrev pub full_record_size : ℕ → ℕ
full_record_size n = 4 + 2 * n

-- the word of a record that refers to the record before it
abbrev pub prev_word : ℕ → ℕ
prev_word at = at

-- the word of the value of the record at that place
abbrev pub value_word : ℕ → ℕ
value_word at = at + 1

-- the word that refers to the view of the record at that place
abbrev pub view_word : ℕ → ℕ
view_word at = at + 2

-- the place of a view of its own, after its three words
abbrev pub own_view : ℕ → ℕ
own_view at = at + 3

-- how many words n pairs have
abbrev pub pairs_size : ℕ → ℕ
pairs_size n = 2 * n

-- the first word of the pairs of the view at that place
abbrev pub pairs_word : ℕ → ℕ
pairs_word at = at + 1

-- the word after that one, of pairs or of indices that are read word by word
abbrev pub next_word : ℕ → ℕ
next_word at = at + 1

-- the word of the index of pair k of the view at that place
abbrev pub pair_index_word : ℕ → ℕ → ℕ
pair_index_word at k = at + 1 + 2 * k

-- the word of the value of pair k of the view at that place
abbrev pub pair_value_word : ℕ → ℕ → ℕ
pair_value_word at k = at + 2 + 2 * k

-- the block stands in the words from that word on
abbrev pub StandsAt : List ℕ → ℕ → List ℕ → Type 0
StandsAt words at block = (k : ℕ) → k < length block → (at + k < length words) × (slice_index words (at + k) ≡ slice_index block k)

-- the record before the one at that place, as it stands in the words
abbrev pub prev_of : List ℕ → ℕ → ℕ
prev_of words at = slice_index words at

-- the value of the record at that place, as it stands in the words
abbrev pub record_value : List ℕ → ℕ → ℕ
record_value words at = slice_index words (value_word at)

-- what it refers to as its view: 0, or a place
abbrev pub view_of : List ℕ → ℕ → ℕ
view_of words at = slice_index words (view_word at)

-- how many pairs the view at that place has, as it stands in the words
abbrev pub view_len : List ℕ → ℕ → ℕ
view_len words at = slice_index words at

-- pair k of the view at that place: a component and its value
abbrev pub view_pair : List ℕ → ℕ → ℕ → ℕ × ℕ
view_pair words at k = (slice_index words (pair_index_word at k), slice_index words (pair_value_word at k))

-- what a record's writer gave, its readers read back
pub record ReadsBackRecord (words : List ℕ) (at p v w : ℕ) (pairs : List (ℕ × ℕ)) : Type 0 where
  pub prev : prev_of words at ≡ p
  pub value : record_value words at ≡ v
  pub view : view_of words at ≡ w
  -- a view of its own stands after it
  pub count : 0 < length pairs → view_len words (own_view at) ≡ length pairs
  pub each : (k : ℕ) (d : ℕ × ℕ) → k < length pairs → view_pair words (own_view at) k ≡ slice_index_or pairs k d

-- every record that stands in the words is read back
abbrev pub RecordsReadBack : Type 0
RecordsReadBack = (words : List ℕ) (at prev value view : ℕ) (pairs : List (ℕ × ℕ)) →
    StandsAt words at (record_block prev value view pairs) → ReadsBackRecord words at prev value view pairs
