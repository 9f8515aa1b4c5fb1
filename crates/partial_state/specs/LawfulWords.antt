-- Lawful words: what stands in them, whose it is, and the history that they agree with.
use Rattle.std.specs.Prelude.{ℕ, ◌≡◌, ◌+◌, ◌*◌, ◌<◌, ◌≤◌, ◌⊎◌, true, List, [], ◌∷◌, length, slice_index, slice_get, Some, None, IfSome, IsSomeAnd, MatchOption}
use Rattle.std.specs.List.{AllByRecursion}
use Rattle.partial_model.specs.declared.history.Applied.{Applied}
use Rattle.partial_model.specs.declared.history.Opening.{Opening}
use Rattle.partial_model.specs.History.{IsHistory}
use Rattle.partial_words.specs.Layout.{Layout, IsLayout, slot_counter, list_head, pool_counter, slot_word, pool_base, pool_end, total, initial_record, first_free, most_ports}
use Rattle.partial_words.specs.Record.{plain_record_size, prev_of, record_value, view_of}
use Rattle.partial_words.specs.Chain.{Agrees}
use Rattle.partial_state.specs.Views.{Block, AreApart, HasFreshView, Covers, IsWithin, IsAnnounced, IsHead}
use Rattle.partial_state.specs.Holdings.Space.{Pool}
use Rattle.partial_state.specs.Holdings.{ClaimedSlot, Counted, Own, Due, Holding, space_begin, end_of, counter_of, block_of, block_at, unpublished, blocks_in, without_block, IfJoined, joined_in, EachTwo, HaveOtherPorts, HaveOtherSlots, counter, is_marked, marked_ports}

-- a block of a port's own lies in its space and below the counter, and holds what is stored
pub record IsOwn (z : Layout) (words : List ℕ) (b : Own) : Type 0 where
  pub above : space_begin z b.space ≤ b.at
  pub within : b.at + length b.words ≤ end_of z b.space
  pub below : b.at + length b.words ≤ slice_index words (counter_of z b.space)
  pub few : b.stored ≤ length b.words
  pub stands : (i : ℕ) → i < b.stored → slice_index words (b.at + i) ≡ slice_index b.words i

-- spare words lie in the pool, after the initial records and below the counter
pub record IsSpare (z : Layout) (words : List ℕ) (b : Block) : Type 0 where
  pub above : first_free z ≤ b.at
  pub within : b.at + b.size ≤ pool_end z
  pub below : b.at + b.size ≤ slice_index words (pool_counter z)

-- what ties a port to the words: its own block, its spare words, and that it is marked for a counter only when that is past its end
pub record IsTied (z : Layout) (words : List ℕ) (h : Holding) : Type 0 where
  pub own : IfSome h.own (IsOwn z words)
  pub spare : IsSpare z words h.spare
  pub marked : (c : Counted) → is_marked c h ≡ true → (counter z c).end < slice_index words (counter z c).word

-- some port has claimed the slot
abbrev pub IsClaimedIn : ℕ → List Holding → Type 0
IsClaimedIn l [] = ⊥
IsClaimedIn l (h ∷ hs) = IsSomeAnd h.claimed (λ c. c.slot ≡ l) ⊎ IsClaimedIn l hs

-- a claimed slot lies below the counter, and holds 0 before its port has joined and its announcement's reference after
pub record IsClaim (z : Layout) (words : List ℕ) (hs : List Holding) (log : List Applied) (c : ClaimedSlot) : Type 0 where
  pub slot : c.slot < z.slots
  pub below : c.slot < slice_index words (slot_counter z)
  pub holds : MatchOption c.joined (slice_index words (slot_word z c.slot) ≡ 0)
      (λ j. (slice_index words (slot_word z c.slot) ≡ j.at) × (j.since ≤ length log) × IsAnnounced z words (unpublished hs) j.at j.indices)

-- the record at `stamp` covers the announcement of each joined port
abbrev pub CoversAll : Layout → List ℕ → List Holding → List Applied → ℕ → Type 0
CoversAll z words hs log stamp = AllByRecursion (λ h. IfJoined h (λ l j. Covers z words (unpublished hs) log stamp j)) hs

-- The exchange is due: the port's own block is that record and stands whole, the record before it is one of the
-- history, the port isn't joined, and if the exchange won, its view would be fresh and covering. It is then no block of
-- the port's own any more: `others` are the holdings without it.
pub record IsDue (z : Layout) (o : Opening) (words : List ℕ) (h : Holding) (others : List Holding) (log : List Applied) (d : Due) :
    Type 0 where
  pub component : d.component < z.m
  pub own : IsSomeAnd h.own (λ b. (b.space ≡ Pool) × (block_of b ≡ block_at words d.at) × (b.stored ≡ length b.words))
  pub prev : prev_of words d.at ≡ d.old
  pub value : record_value words d.at ≡ d.value
  pub before : IsWithin o log (length log) d.old
  pub unjoined : joined_in h.claimed ≡ None
  pub would : slice_index words d.component ≡ d.old →
      HasFreshView z o words (unpublished others) log (length log) d.at × CoversAll z words others log d.at

-- an entry's record lies in the pool, after the initial records and below the counter
pub record IsEntry (z : Layout) (words : List ℕ) (e : Applied) : Type 0 where
  pub above : first_free z ≤ e.stamp
  pub within : e.stamp + plain_record_size ≤ pool_end z
  pub below : e.stamp + plain_record_size ≤ slice_index words (pool_counter z)

-- a counter is not below where it begins, nor past its end by more than one greatest claim for each port that is marked for it
pub record IsCounted (z : Layout) (words : List ℕ) (hs : List Holding) (c : Counted) : Type 0 where
  pub low : (counter z c).begin ≤ slice_index words (counter z c).word
  pub high : slice_index words (counter z c).word ≤ (counter z c).end + (counter z c).greatest * marked_ports c hs

-- Lawful words: of no more ports than there may be, with what each holds in them, and of the history of all that was applied.
pub record LawfulWords (z : Layout) (o : Opening) (words : List ℕ) (hs : List Holding) (log : List Applied) : Type 0 where
  -- the sizes are in range
  pub sizes : IsLayout z
  -- the memory opened with a value for each component
  pub values : length o.values ≡ z.m
  -- the first initial stamp is the first word of the pool
  pub stamps : o.first ≡ pool_base z
  -- there are as many words as the sizes say
  pub count : length words ≡ total z
  -- there are no more ports than there may be
  pub few : length hs ≤ most_ports
  -- each port has one holding
  pub ports : EachTwo HaveOtherPorts hs
  -- each entry is for a component, and each stamp is of one entry and is no initial one
  pub history : IsHistory o log
  -- the words agree with the history
  pub agrees : Agrees o words log
  -- the view of each initial record is the empty one
  pub initial : (j : ℕ) → j < z.m → view_of words (initial_record z j) ≡ 0
  -- each entry's record lies in the pool, after the initial records and below the counter
  pub entries : AllByRecursion (IsEntry z words) log
  -- each block that isn't published belongs to one port, and lies below its counter
  pub tied : AllByRecursion (IsTied z words) hs
  -- no two blocks share a word
  pub apart : EachTwo AreApart (blocks_in z words hs log)
  -- each entry has a fresh view
  pub fresh : (k : ℕ) (e : Applied) → slice_get log k ≡ Some e → HasFreshView z o words (unpublished hs) log k e.stamp
  -- each entry covers the announcement of each joined port
  pub covering : AllByRecursion (λ e. CoversAll z words hs log e.stamp) log
  -- a record whose exchange is due would have a fresh view and cover them, if that exchange won
  pub due : AllByRecursion (λ h. IfSome h.due (IsDue z o words h (without_block h.port hs) log)) hs
  -- a slot from the counter on is EMPTY
  pub unclaimed : (l : ℕ) → slice_index words (slot_counter z) ≤ l → l < z.slots → slice_index words (slot_word z l) ≡ 0
  -- a slot below the counter is VACATED or claimed
  pub taken : (l : ℕ) → l < slice_index words (slot_counter z) → l < z.slots → (slice_index words (slot_word z l) ≡ 1) ⊎ IsClaimedIn l hs
  -- a claimed slot is EMPTY before its port joins, and refers to its published announcement after
  pub claims : AllByRecursion (λ h. IfSome h.claimed (IsClaim z words hs log)) hs
  -- a slot is claimed by one port
  pub owners : EachTwo HaveOtherSlots hs
  -- the list head is none or the reference of a published list
  pub head : IsHead z words (unpublished hs) (slice_index words (list_head z))
  -- each counter is in its bounds
  pub counters : (c : Counted) → IsCounted z words hs c
