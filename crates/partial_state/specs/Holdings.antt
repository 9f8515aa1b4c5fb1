-- What a port holds in the words: a slot, a block that it writes, an exchange that is due, spare words, and its marks.
use Rattle.std.specs.Prelude.{ℕ, ◌≢◌, ◌+◌, ◌==◌, ⊤, Bool, true, List, [], ◌∷◌, ◌++◌, length, map, filter_map, Option, Some, None, IfSome, if◌then◌else◌}
use Rattle.std.specs.List.{AllByRecursion}
use Rattle.std.specs.Option.{option_map}
use Rattle.partial_model.specs.declared.history.Applied.{Applied}
use Rattle.partial_words.specs.Layout.{Layout, slot_counter, pool_counter, list_counter, list_base, list_end, pool_base, pool_end, initial_words, first_free, greatest_claim, greatest_list}
use Rattle.partial_words.specs.Record.{plain_record_size, full_record_size, own_view, view_of, view_len}
use Rattle.partial_words.specs.Announcement.{announcement_size}
use Rattle.partial_state.specs.Views.{Block, JoinedAnnouncement}

-- a slot that a port has claimed and not left: EMPTY until the port joins, then its announcement's reference
pub record ClaimedSlot : Type 0 where
  pub slot : ℕ
  pub joined : Option JoinedAnnouncement

-- where blocks are claimed: the pool words after the initial records, or the list words
pub data Space : Type 0 where
  Pool : Space
  Lists : Space

-- the first word of a space that can be claimed
abbrev pub space_begin : Layout → Space → ℕ
space_begin z Pool = first_free z
space_begin z Lists = list_base z

-- the word after a space
abbrev pub end_of : Layout → Space → ℕ
end_of z Pool = pool_end z
end_of z Lists = list_end z

-- the word that counts what is claimed of a space
abbrev pub counter_of : Layout → Space → ℕ
counter_of z Pool = pool_counter z
counter_of z Lists = list_counter z

-- a block that a port writes: its space, its reference, its words, and how many of them are stored
pub record Own : Type 0 where
  pub space : Space
  pub at : ℕ
  pub words : List ℕ
  pub stored : ℕ

-- where a port's own block lies
abbrev pub block_of : Own → Block
block_of b = record { at = b.at; size = length b.words }

-- an exchange of a component that is due: it expects the record `old`, and publishes the one at `at` with that value
pub record Due : Type 0 where
  pub component : ℕ
  pub old : ℕ
  pub value : ℕ
  pub at : ℕ

-- What a port holds: its slot, the block that it writes, the exchange that is due, the pool words that it has claimed and
-- keeps for later records, and its marks.
pub record Holding : Type 0 where
  pub port : ℕ
  pub claimed : Option ClaimedSlot
  pub own : Option Own
  pub due : Option Due
  pub spare : Block
  pub pool_spent : Bool
  pub slots_spent : Bool
  pub lists_spent : Bool

-- the blocks that ports write
abbrev pub written : List Holding → List Block
written hs = filter_map (λ h. option_map block_of h.own) hs

-- the words that they keep for later records
abbrev pub spares : List Holding → List Block
spares hs = map (λ h. h.spare) hs

-- the blocks that aren't published yet
abbrev pub unpublished : List Holding → List Block
unpublished hs = written hs ++ spares hs

-- the announcement of a joined port, with its slot
abbrev pub IfJoined : Holding → (ℕ → JoinedAnnouncement → Type 0) → Type 0
IfJoined h P = IfSome h.claimed (λ c. IfSome c.joined (P c.slot))

-- the announcement of a port that is joined
abbrev pub joined_in : Option ClaimedSlot → Option JoinedAnnouncement
joined_in None = None
joined_in (Some c) = c.joined

-- the announcements of the ports that have joined
abbrev pub announcements : List Holding → List Block
announcements hs =
    filter_map (λ h. option_map (λ j. record { at = j.at; size = announcement_size (length j.indices) }) (joined_in h.claimed)) hs

-- how many words the record at `stamp` has, with its own view if it has one
abbrev pub size_at : List ℕ → ℕ → ℕ
size_at words stamp =
    if view_of words stamp == own_view stamp then full_record_size (view_len words (own_view stamp)) else plain_record_size

-- the block of the record at `stamp`
abbrev pub block_at : List ℕ → ℕ → Block
block_at words stamp = record { at = stamp; size = size_at words stamp }

-- the initial records, the entries' records, the announcements that stand in slots, and the blocks that aren't published yet
abbrev pub blocks_in : Layout → List ℕ → List Holding → List Applied → List Block
blocks_in z words hs log =
    record { at = pool_base z; size = initial_words z } ∷ (map (λ e. block_at words e.stamp) log ++ (announcements hs ++ unpublished hs))

-- R holds of each two of the list
abbrev pub EachTwo : {A : Type 0} → (A → A → Type 0) → List A → Type 0
EachTwo R [] = ⊤
EachTwo R (x ∷ xs) = AllByRecursion (R x) xs × EachTwo R xs

-- the two are of two ports
abbrev pub HaveOtherPorts : Holding → Holding → Type 0
HaveOtherPorts a b = a.port ≢ b.port

-- the two have claimed two slots, when both have claimed one
abbrev pub HaveOtherSlots : Holding → Holding → Type 0
HaveOtherSlots a b = IfSome a.claimed (λ c. IfSome b.claimed (λ d. c.slot ≢ d.slot))

-- the holdings, without the block that this port writes
abbrev pub without_block : ℕ → List Holding → List Holding
without_block p [] = []
without_block p (h ∷ hs) = (if h.port == p then record h { own = None } else h) ∷ without_block p hs

-- what ports claim by a counter: pool words, slots, and list words
pub data Counted : Type 0 where
  PoolWords : Counted
  Slots : Counted
  ListWords : Counted

-- a counter: its word, the number from which it counts, the end of what it counts, and how much a claim takes at most
pub record Counter : Type 0 where
  pub word : ℕ
  pub begin : ℕ
  pub end : ℕ
  pub greatest : ℕ

-- the three counters
abbrev pub counter : Layout → Counted → Counter
counter z PoolWords = record { word = pool_counter z; begin = first_free z; end = pool_end z; greatest = greatest_claim z }
counter z Slots = record { word = slot_counter z; begin = 0; end = z.slots; greatest = 1 }
counter z ListWords = record { word = list_counter z; begin = list_base z; end = list_end z; greatest = greatest_list z }

-- whether a port is marked for a counter: a claim of its own has gone past the end
abbrev pub is_marked : Counted → Holding → Bool
is_marked PoolWords h = h.pool_spent
is_marked Slots h = h.slots_spent
is_marked ListWords h = h.lists_spent

-- the port, marked for it
abbrev pub marked_for : Counted → Holding → Holding
marked_for PoolWords h = record h { pool_spent = true }
marked_for Slots h = record h { slots_spent = true }
marked_for ListWords h = record h { lists_spent = true }

-- how many ports are marked for it
abbrev pub marked_ports : Counted → List Holding → ℕ
marked_ports c [] = 0
marked_ports c (h ∷ hs) = (if is_marked c h then 1 else 0) + marked_ports c hs
