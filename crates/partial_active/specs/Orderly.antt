-- Orderly words of an active set, the blocks that they publish, and how a slot may move.
use Rattle.std.specs.Prelude.{ℕ, ◌≡◌, ◌+◌, ◌*◌, ◌<◌, ◌≤◌, ◌⊎◌, List, length, slice_index}
use Rattle.partial_intervals.specs.Intervals.{Ranges, Holds, IsNormal}
use Rattle.partial_words.specs.Layout.{Layout, slot_counter, list_head, list_counter, slot_word, list_base, list_end, pool_base, pool_end, greatest_list, most_ports}
use Rattle.partial_words.specs.Record.{StandsAt}
use Rattle.partial_words.specs.Announcement.{announcement_block, announcement_size}
use Rattle.partial_words.specs.VacatedList.{list_block, list_size}

-- what a slot holds
abbrev pub slot_at : Layout → List ℕ → ℕ → ℕ
slot_at s words slot = slice_index words (slot_word s slot)

-- what the list head holds: 0, or the place of the published list
abbrev pub head_at : Layout → List ℕ → ℕ
head_at s words = slice_index words (list_head s)

-- a whole announcement of these indices stands at the word
pub record IsAnnouncement (s : Layout) (words : List ℕ) (at : ℕ) (named : List ℕ) : Type 0 where
  pub from : pool_base s ≤ at
  pub to : at + announcement_size (length named) ≤ pool_end s
  pub count : length named ≤ s.m
  pub each : (k : ℕ) → k < length named → slice_index named k < s.m
  pub stands : StandsAt words at (announcement_block named)

-- a whole list of these slots stands at the word, and all of them are VACATED
pub record IsVacatedList (s : Layout) (words : List ℕ) (at : ℕ) (list : Ranges) : Type 0 where
  pub from : list_base s ≤ at
  pub to : at + list_size (length list) ≤ list_end s
  pub normal : IsNormal list
  pub stands : StandsAt words at (list_block list)
  pub within : (x : ℕ) → Holds list x → x < s.slots
  pub vacated : (x : ℕ) → Holds list x → slot_at s words x ≡ 1

-- a slot is EMPTY, VACATED, or refers to a whole announcement
abbrev pub IsSlotOf : Layout → List ℕ → ℕ → Type 0
IsSlotOf s words a = (a ≡ 0) ⊎ ((a ≡ 1) ⊎ ((named : List ℕ) × IsAnnouncement s words a named))

-- the list head is none, or refers to a whole list of vacated slots
abbrev pub IsHeadOf : Layout → List ℕ → ℕ → Type 0
IsHeadOf s words h = (h ≡ 0) ⊎ ((list : Ranges) × IsVacatedList s words h list)

-- orderly words
pub record Orderly (s : Layout) (words : List ℕ) : Type 0 where
  pub slots : (slot : ℕ) → slot < s.slots → IsSlotOf s words (slot_at s words slot)
  pub unclaimed : (slot : ℕ) → slice_index words (slot_counter s) ≤ slot → slot < s.slots → slot_at s words slot ≡ 0
  pub head : IsHeadOf s words (head_at s words)
  pub lists_from : list_base s ≤ slice_index words (list_counter s)
  pub lists_to : slice_index words (list_counter s) ≤ list_end s + most_ports * greatest_list s

-- the block is one that these words publish: the announcement that a slot refers to, or the list at the list head
abbrev pub Publishes : Layout → ℕ → List ℕ → List ℕ → Type 0
Publishes s at block words =
    ((slot : ℕ) × (named : List ℕ) × (slot < s.slots) × (slot_at s words slot ≡ at) × IsAnnouncement s words at named
    × (block ≡ announcement_block named))
    ⊎ ((list : Ranges) × (head_at s words ≡ at) × IsVacatedList s words at list × (block ≡ list_block list))

-- a slot stays as it is, goes from EMPTY to a whole announcement, or from an announcement to VACATED
abbrev pub IsSlotMove : Layout → List ℕ → List ℕ → ℕ → Type 0
IsSlotMove s before after slot =
    (slot_at s after slot ≡ slot_at s before slot)
    ⊎ ((slot_at s before slot ≡ 0) × ((named : List ℕ) × IsAnnouncement s after (slot_at s after slot) named))
    ⊎ (((named : List ℕ) × IsAnnouncement s before (slot_at s before slot) named) × (slot_at s after slot ≡ 1))
