-- The four sizes of a memory, and the regions of its words in rising order.
use Rattle.std.specs.Prelude.{ℕ, ◌≡◌, ◌+◌, ◌*◌, ◌<◌, ◌≤◌}
use Rattle.partial_words.specs.declared.block.Block.{Block}

-- m components, and how many slots, list words and pool words there are
pub record Layout : Type 0 where
  pub m : ℕ
  pub slots : ℕ
  pub lists : ℕ
  pub pool : ℕ

-- the number of components is in its range
abbrev pub AreComponents : Layout → Type 0
AreComponents s = (1 ≤ s.m) × (s.m ≤ 65536)

-- the number of slots is in its range
abbrev pub AreSlots : Layout → Type 0
AreSlots s = (1 ≤ s.slots) × (s.slots ≤ 65536)

-- the number of list words is in its range
abbrev pub AreLists : Layout → Type 0
AreLists s = s.lists ≤ 65536

-- the number of pool words is in its range, with room for the initial records
abbrev pub ArePool : Layout → Type 0
ArePool s = (3 * s.m ≤ s.pool) × (s.pool ≤ 4194304)

-- how many ports a memory has at most: so many seals fit above a reference
abbrev pub most_ports : ℕ
most_ports = 255

-- the four sizes are in range
pub record IsLayout (s : Layout) : Type 0 where
  pub components : AreComponents s
  pub slots : AreSlots s
  pub lists : AreLists s
  pub pool : ArePool s

-- the word of component j
abbrev pub component_word : Layout → ℕ → ℕ
component_word s j = j

-- the word that counts the slots that were claimed
abbrev pub slot_counter : Layout → ℕ
slot_counter s = s.m

-- the word that refers to the published list of vacated slots
abbrev pub list_head : Layout → ℕ
list_head s = s.m + 1

-- the word that refers to the first pool word that isn't claimed
abbrev pub pool_counter : Layout → ℕ
pool_counter s = s.m + 2

-- the word that refers to the first list word that isn't claimed
abbrev pub list_counter : Layout → ℕ
list_counter s = s.m + 3

-- the word of slot l
abbrev pub slot_word : Layout → ℕ → ℕ
slot_word s l = s.m + 4 + l

-- the first list word
abbrev pub list_base : Layout → ℕ
list_base s = s.m + 4 + s.slots

-- the word after the list words
abbrev pub list_end : Layout → ℕ
list_end s = s.m + 4 + s.slots + s.lists

-- the first pool word
abbrev pub pool_base : Layout → ℕ
pool_base s = s.m + 4 + s.slots + s.lists

-- the word after the pool
abbrev pub pool_end : Layout → ℕ
pool_end s = s.m + 4 + s.slots + s.lists + s.pool

-- how many words there are
abbrev pub total : Layout → ℕ
total s = s.m + 4 + s.slots + s.lists + s.pool

-- the place of the initial record of component j
abbrev pub initial_record : Layout → ℕ → ℕ
initial_record s j = pool_base s + 3 * j

-- how many words the initial records take
abbrev pub initial_words : Layout → ℕ
initial_words s = 3 * s.m

-- the first pool word after the initial records
abbrev pub first_free : Layout → ℕ
first_free s = pool_base s + 3 * s.m

-- how many words a record takes at most: one with a view of all components
abbrev pub greatest_record : Layout → ℕ
greatest_record s = 4 + 2 * s.m

-- how many words a port claims at most beyond those of the record that it is about to write: those of 31 records without a view
abbrev pub most_ahead : ℕ
most_ahead = 93

-- how many words a claim takes at most
abbrev pub greatest_claim : Layout → ℕ
greatest_claim s = greatest_record s + most_ahead

-- no words that a port has claimed and keeps for later records
abbrev pub no_spare : Layout → Block
no_spare s = record { at = first_free s; size = 0 }

-- how many words a list takes at most: one in which every second slot stands
abbrev pub greatest_list : Layout → ℕ
greatest_list s = s.slots + 2

-- what a word is for
pub data Region : Type 0 where
  Components : Region
  SlotCounter : Region
  ListHead : Region
  PoolCounter : Region
  ListCounter : Region
  Slots : Region
  Lists : Region
  Pool : Region

-- the first word of a region
abbrev pub first_word : Layout → Region → ℕ
first_word s Components = 0
first_word s SlotCounter = slot_counter s
first_word s ListHead = list_head s
first_word s PoolCounter = pool_counter s
first_word s ListCounter = list_counter s
first_word s Slots = slot_word s 0
first_word s Lists = list_base s
first_word s Pool = pool_base s

-- the word after a region
abbrev pub end_word : Layout → Region → ℕ
end_word s Components = s.m
end_word s SlotCounter = slot_counter s + 1
end_word s ListHead = list_head s + 1
end_word s PoolCounter = pool_counter s + 1
end_word s ListCounter = list_counter s + 1
end_word s Slots = slot_word s s.slots
end_word s Lists = list_end s
end_word s Pool = pool_end s

-- the word stands in the region
abbrev pub StandsIn : Layout → ℕ → Region → Type 0
StandsIn s w region = (first_word s region ≤ w) × (w < end_word s region)

-- each word below the total stands in one region and in no other
pub record AreRegionsOf (s : Layout) : Type 0 where
  pub cover : (w : ℕ) → w < total s → (region : Region) × StandsIn s w region
  pub disjoint : (w : ℕ) (a b : Region) → StandsIn s w a → StandsIn s w b → a ≡ b
  pub within : (w : ℕ) (region : Region) → StandsIn s w region → w < total s

-- each word stands in one region and in no other, whatever the sizes are
abbrev pub RegionsAreApart : Type 0
RegionsAreApart = (s : Layout) → AreRegionsOf s
