-- The chain of records of a component, and when words agree with a history.
use Rattle.std.specs.Prelude.{ℕ, ◌≡◌, ◌-◌, ◌/◌, ◌%◌, ◌<◌, ◌==◌, List, [], ◌∷◌, ◌++◌, length, slice_index, slice_get, Some, nat_lt, if◌then◌else◌}
use Rattle.partial_model.specs.declared.history.Applied.{Applied}
use Rattle.partial_model.specs.declared.history.Opening.{Opening}
use Rattle.partial_model.specs.History.{initial_stamp, stamp_of}
use Rattle.partial_words.specs.declared.record.Link.{Link}
use Rattle.partial_words.specs.Layout.{Layout, IsLayout, pool_base, pool_counter, list_base, list_counter, total, initial_record, first_free}
use Rattle.partial_words.specs.Record.{view_word, prev_of, record_value}

-- the record at that reference lies within the words, and is this one
pub record IsLink (words : List ℕ) (at : ℕ) (l : Link) : Type 0 where
  pub stamp : l.stamp ≡ at
  pub within : view_word at < length words
  pub value : record_value words at ≡ l.value

-- the records from that reference along `prev` are these, down to one whose `prev` is 0
abbrev pub IsChain : List ℕ → ℕ → List Link → Type 0
IsChain words at [] = ⊥
IsChain words at (l ∷ []) = IsLink words at l × (prev_of words at ≡ 0)
IsChain words at (l ∷ k ∷ ls) = IsLink words at l × IsChain words (prev_of words at) (k ∷ ls)

-- the records of component j, newest first, in front of those that were there before
unfoldable pub links_from : List Link → ℕ → List Applied → List Link
links_from found j [] = found
links_from found j (e ∷ h) = links_from (if e.component == j then record { stamp = e.stamp; value = e.value } ∷ found else found) j h

-- the entries for component j, newest first, and then its initial record
abbrev pub chain_of : Opening → ℕ → List Applied → List Link
chain_of o j h = links_from (record { stamp = initial_stamp o j; value = slice_index o.values j } ∷ []) j h

-- the last entry of a history is the newest record of its component, and no record of another; before the first there is the initial one
pub record LastEntriesHeadChains : Type 0 where
  pub entry : (o : Opening) (j : ℕ) (h : List Applied) (e : Applied) →
      chain_of o j (h ++ e ∷ []) ≡ (if e.component == j then record { stamp = e.stamp; value = e.value } ∷ chain_of o j h else chain_of o j h)
  pub none : (o : Opening) (j : ℕ) → chain_of o j [] ≡ record { stamp = initial_stamp o j; value = slice_index o.values j } ∷ []

-- each component word names the last record of its component, and its chain is that of the history
abbrev pub Agrees : Opening → List ℕ → List Applied → Type 0
Agrees o words h =
    (j : ℕ) → j < length o.values → (slice_index words j ≡ stamp_of o h j) × IsChain words (slice_index words j) (chain_of o j h)

-- the record of each component, that of each entry, and the one before it lie within the words
pub record LieWithin (o : Opening) (words : List ℕ) (h : List Applied) : Type 0 where
  pub components : (j : ℕ) → j < length o.values → view_word (slice_index words j) < length words
  pub entries : (k : ℕ) (e : Applied) → slice_get h k ≡ Some e → e.component < length o.values → view_word e.stamp < length words
  pub before : (k : ℕ) (e : Applied) → slice_get h k ≡ Some e → e.component < length o.values →
      view_word (prev_of words e.stamp) < length words

-- word k of the initial records from the pool's first word on: 0, the value, 0 for each component
abbrev pub initial_record_word : List ℕ → ℕ → ℕ
initial_record_word initial k = if k % 3 == 1 then slice_index initial (k / 3) else 0

-- word w at opening
abbrev pub opening_word : Layout → List ℕ → ℕ → ℕ
opening_word s initial w =
    if nat_lt w s.m then initial_record s w
    else if w == pool_counter s then first_free s
    else if w == list_counter s then list_base s
    else if nat_lt w (pool_base s) then 0
    else if nat_lt w (first_free s) then initial_record_word initial (w - pool_base s)
    else 0

-- all words at opening
pub record AreOpeningWords (s : Layout) (initial words : List ℕ) : Type 0 where
  pub count : length words ≡ total s
  pub each : (w : ℕ) → w < total s → slice_index words w ≡ opening_word s initial w

-- the words are those of an opening: of as many values as there are components, and with stamps from the pool's first word on
pub record OpensWith (s : Layout) (o : Opening) (all : List ℕ) : Type 0 where
  pub sizes : IsLayout s
  pub values : length o.values ≡ s.m
  pub stamps : o.first ≡ pool_base s
  pub words : AreOpeningWords s o.values all

-- the words at opening agree with the empty history
abbrev pub OpeningWordsAgree : Type 0
OpeningWordsAgree = (s : Layout) (o : Opening) (words : List ℕ) → OpensWith s o words → Agrees o words []

-- in words that agree with a history all records lie within the words
abbrev pub RecordsLieWithin : Type 0
RecordsLieWithin = (o : Opening) (words : List ℕ) (h : List Applied) → Agrees o words h → LieWithin o words h
