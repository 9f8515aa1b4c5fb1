-- What is published and never changes: views, announcements and lists, and which views are fresh and covering.
use Rattle.std.specs.Prelude.{ℕ, ◌≡◌, ◌+◌, ◌<◌, ◌≤◌, ◌⊎◌, List, [], length, map, nat_eq, take, slice_index, slice_get, Contains, Some}
use Rattle.std.specs.List.{AllByRecursion, IsDistinct}
use Rattle.partial_intervals.specs.Intervals.{Ranges}
use Rattle.partial_model.specs.declared.history.Applied.{Applied}
use Rattle.partial_model.specs.declared.history.Opening.{Opening}
use Rattle.partial_model.specs.History.{initial_stamp, value_of}
pub use Rattle.partial_words.specs.declared.block.Block.{Block}
use Rattle.partial_words.specs.Layout.{Layout, pool_counter, list_counter, pool_end, first_free}
use Rattle.partial_words.specs.Record.{StandsAt, view_block, own_view, prev_of, view_of}
use Rattle.partial_words.specs.Announcement.{announcement_size}
use Rattle.partial_words.specs.VacatedList.{list_block}
use Rattle.partial_active.specs.Orderly.{IsAnnouncement, IsVacatedList}

-- no word belongs to both blocks
abbrev pub AreApart : Block → Block → Type 0
AreApart a b = (a.at + a.size ≤ b.at) ⊎ (b.at + b.size ≤ a.at)

-- the block shares no word with one that isn't published yet
abbrev pub IsApartFrom : List Block → Block → Type 0
IsApartFrom unpublished a = AllByRecursion (AreApart a) unpublished

-- a whole view stands at the word: at most m pairs of a component and a value, no component twice, published for ever
pub record IsView (z : Layout) (words : List ℕ) (unpublished : List Block) (at : ℕ) (pairs : List (ℕ × ℕ)) : Type 0 where
  pub above : first_free z ≤ at
  pub within : at + length (view_block pairs) ≤ pool_end z
  pub below : at + length (view_block pairs) ≤ slice_index words (pool_counter z)
  pub few : length pairs ≤ z.m
  pub components : AllByRecursion (λ pair. pair.0 < z.m) pairs
  pub distinct : IsDistinct nat_eq (map (λ pair. pair.0) pairs)
  pub stands : StandsAt words at (view_block pairs)
  pub apart : IsApartFrom unpublished (record { at = at; size = length (view_block pairs) })

-- the pairs of the view that the record at `stamp` refers to: 0 is the empty view
abbrev pub HasPairs : Layout → List ℕ → List Block → ℕ → List (ℕ × ℕ) → Type 0
HasPairs z words unpublished stamp pairs =
    ((view_of words stamp ≡ 0) × (pairs ≡ [])) ⊎ IsView z words unpublished (view_of words stamp) pairs

-- the stamp is an initial one, or that of one of the first n entries
abbrev pub IsWithin : Opening → List Applied → ℕ → ℕ → Type 0
IsWithin o log n stamp =
    ((j : ℕ) × (j < length o.values) × (stamp ≡ initial_stamp o j))
    ⊎ ((k : ℕ) × (e : Applied) × (k < n) × (slice_get log k ≡ Some e) × (e.stamp ≡ stamp))

-- the view of the record at `stamp` is none, stands after the record itself, or after the record of an entry
abbrev pub IsViewOf : List Applied → ℕ → ℕ → Type 0
IsViewOf log stamp view =
    (view ≡ 0) ⊎ (view ≡ own_view stamp) ⊎ ((k : ℕ) × (e : Applied) × (slice_get log k ≡ Some e) × (view ≡ own_view e.stamp))

-- The record at `stamp`, whose place in the history is k or would be, has a fresh view: the values after
-- one prefix of the history that contains the record before it and doesn't contain itself.
pub record HasFreshView (z : Layout) (o : Opening) (words : List ℕ) (unpublished : List Block) (log : List Applied) (k stamp : ℕ) :
    Type 0 where
  pub pairs : List (ℕ × ℕ)
  pub shown : HasPairs z words unpublished stamp pairs
  pub owner : IsViewOf log stamp (view_of words stamp)
  pub prefix : ℕ
  pub contains : IsWithin o log prefix (prev_of words stamp)
  pub without : prefix ≤ k
  pub values : AllByRecursion (λ pair. pair.1 ≡ value_of o (take prefix log) pair.0) pairs

-- an announcement that stands in a slot: its reference, its indices, and how long the history was when its port joined
pub record JoinedAnnouncement : Type 0 where
  pub at : ℕ
  pub indices : List ℕ
  pub since : ℕ

-- the record before is that of an entry at that place or later
abbrev pub IsBegunSince : List Applied → ℕ → ℕ → Type 0
IsBegunSince log since prev = (k : ℕ) × (e : Applied) × (since ≤ k) × (slice_get log k ≡ Some e) × (e.stamp ≡ prev)

-- the view of the record at `stamp` names each of the indices
abbrev pub ViewNames : Layout → List ℕ → List Block → ℕ → List ℕ → Type 0
ViewNames z words unpublished stamp indices =
    (pairs : List (ℕ × ℕ)) × HasPairs z words unpublished stamp pairs
    × AllByRecursion (λ j. Contains (map (λ pair. pair.0) pairs) j) indices

-- the record at `stamp` covers the announcement: it names its indices when it was begun since the port joined
abbrev pub Covers : Layout → List ℕ → List Block → List Applied → ℕ → JoinedAnnouncement → Type 0
Covers z words unpublished log stamp j = IsBegunSince log j.since (prev_of words stamp) → ViewNames z words unpublished stamp j.indices

-- a whole announcement stands at the word, published for ever
pub record IsAnnounced (z : Layout) (words : List ℕ) (unpublished : List Block) (at : ℕ) (indices : List ℕ) : Type 0 where
  pub whole : IsAnnouncement z words at indices
  pub above : first_free z ≤ at
  pub below : at + announcement_size (length indices) ≤ slice_index words (pool_counter z)
  pub apart : IsApartFrom unpublished (record { at = at; size = announcement_size (length indices) })

-- a whole list of vacated slots stands at the word, published for ever
pub record IsPublishedList (z : Layout) (words : List ℕ) (unpublished : List Block) (at : ℕ) (list : Ranges) : Type 0 where
  pub whole : IsVacatedList z words at list
  pub below : at + length (list_block list) ≤ slice_index words (list_counter z)
  pub apart : IsApartFrom unpublished (record { at = at; size = length (list_block list) })

-- a list head: none, or the reference of a published list
abbrev pub IsHead : Layout → List ℕ → List Block → ℕ → Type 0
IsHead z words unpublished x = (x ≡ 0) ⊎ ((list : Ranges) × IsPublishedList z words unpublished x list)
