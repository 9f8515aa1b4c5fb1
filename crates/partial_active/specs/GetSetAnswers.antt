-- Which answers a getSet may be given, and how its machine and its buffers go together.
use Rattle.std.specs.Prelude.{ℕ, ◌≡◌, ◌+◌, ◌*◌, ◌<◌, ◌≤◌, ◌⊎◌, List, [], length, slice_index, Some}
use Rattle.partial_intervals.specs.Intervals.{Ranges, lowest, highest, IsNormal}
use Rattle.partial_words.specs.declared.step.Step.{Step}
use Rattle.partial_words.specs.Step.{answer_of, word_of}
use Rattle.partial_words.specs.Layout.{Layout, list_base, list_end, pool_base, pool_end, greatest_list, most_ports}
use Rattle.partial_words.specs.Announcement.{announcement_size}
use Rattle.partial_words.specs.VacatedList.{list_block, list_size}
use Rattle.partial_words.specs.Record.{pairs_size}
use Rattle.partial_active.specs.declared.get_set.Stage.{Stage}
use Rattle.partial_active.specs.declared.get_set.Stage.TheVariants.{Head, ListLen, ListLow, ListHigh, Counter, Slot, Len, Index, Claim, Write, Publish, Done}
use Rattle.partial_active.specs.Found.{AreFoundFor}
use Rattle.partial_active.specs.GetSet.{SetPair, next_words, set_step_due}

-- each interval of the list ends below the number
abbrev pub EndsBelow : Ranges → ℕ → Type 0
EndsBelow list n = (k : ℕ) → k < length list → highest list k < n

-- a list head: none, or a reference with a word in the list words
abbrev pub IsListHead : Layout → ℕ → Type 0
IsListHead s x = (x ≡ 0) ⊎ ((list_base s ≤ x) × (x < list_end s))

-- a slot word: EMPTY, VACATED, or a reference with a word in the pool
abbrev pub IsSlotWord : Layout → ℕ → Type 0
IsSlotWord s x = (x ≡ 0) ⊎ ((x ≡ 1) ⊎ ((pool_base s ≤ x) × (x < pool_end s)))

-- the number of intervals of a list whose words begin at the reference
abbrev pub IsListLen : Layout → ℕ → ℕ → Type 0
IsListLen s at x = (at + list_size x ≤ list_end s) × (2 * x ≤ s.slots + 1)

-- the next interval begins beyond those that were read, below the slots
abbrev pub IsNextLow : Layout → Ranges → ℕ → Type 0
IsNextLow s read x = (x < s.slots) × ((k : ℕ) → k < length read → highest read k + 1 < x)

-- the number of indices of an announcement whose words begin at the reference
abbrev pub IsAnnouncedLen : Layout → ℕ → ℕ → Type 0
IsAnnouncedLen s at x = (at + announcement_size x ≤ pool_end s) × (x ≤ s.m)

-- a claim of list words: the counter is not below them, and past their end by a list of each of the most ports at most, so that it does not wrap
abbrev pub IsListClaim : Layout → ℕ → Type 0
IsListClaim s x = (list_base s ≤ x) × (x ≤ list_end s + most_ports * greatest_list s)

-- an answer that orderly words may give to the due step at a stage
abbrev pub is_possible_at : Stage → SetPair → ℕ → Type 0
is_possible_at Head p x = IsListHead p.0.sizes x
is_possible_at (ListLen at) p x = IsListLen p.0.sizes at x
is_possible_at (ListLow at left) p x = IsNextLow p.0.sizes p.1.read x
is_possible_at (ListHigh at left lo) p x = (lo ≤ x) × (x < p.0.sizes.slots)
is_possible_at Counter p x = EndsBelow p.1.read x
is_possible_at (Slot slot) p x = IsSlotWord p.0.sizes x
is_possible_at (Len slot at) p x = IsAnnouncedLen p.0.sizes at x
is_possible_at (Index slot at left) p x = x < p.0.sizes.m
is_possible_at (Claim words) p x = IsListClaim p.0.sizes x
is_possible_at (Write at k words word) p x = Unit {0}
is_possible_at (Publish at) p x = Unit {0}
is_possible_at Done p x = Unit {0}

-- an answer that orderly words may give to the due step
abbrev pub IsPossibleInSet : SetPair → ℕ → Type 0
IsPossibleInSet p x = is_possible_at p.0.stage p x

-- the step that is due is about one of the words, and they may give the answer that they give
pub record SetMayPerform (p : SetPair) (words : List ℕ) : Type 0 where
  pub step : Step
  pub due : set_step_due p.0 ≡ Some step
  pub within : word_of step < length words
  pub possible : IsPossibleInSet p (answer_of words step)

-- the list that was read: normal, and within the slots
pub record HasRead (s : Layout) (read : Ranges) : Type 0 where
  pub normal : IsNormal read
  pub within : EndsBelow read s.slots

-- so many intervals of the list are left to be read
pub record IsReading (p : SetPair) (left : ℕ) : Type 0 where
  pub list : HasRead p.0.sizes p.1.read
  pub next : p.1.next ≡ []
  pub some : 0 < left
  pub room : 2 * (length p.1.read + left) ≤ p.0.sizes.slots + 1

-- the walk stands at the slot: what it passed lies below, and the rest of the list read lies after it
pub record IsWalking (p : SetPair) (slot : ℕ) : Type 0 where
  pub list : HasRead p.0.sizes p.1.read
  pub end_within : p.0.end ≤ p.0.sizes.slots
  pub list_before_end : EndsBelow p.1.read p.0.end
  pub next : IsNormal p.1.next
  pub next_below : EndsBelow p.1.next slot
  pub slot_within : slot ≤ p.0.sizes.slots
  pub passed : p.0.passed ≤ length p.1.read
  pub before : (k : ℕ) → k < p.0.passed → highest p.1.read k < slot
  pub behind : (k : ℕ) → p.0.passed ≤ k → k < length p.1.read → slot ≤ lowest p.1.read k

-- the walk is at a slot that is in no interval of the list read
pub record IsAtSlot (p : SetPair) (slot : ℕ) : Type 0 where
  pub walking : IsWalking p slot
  pub below : slot < p.0.end
  pub outside : (k : ℕ) → p.0.passed ≤ k → k < length p.1.read → slot < lowest p.1.read k

-- the next list is whole, within the slots
pub record HasNext (p : SetPair) (words : ℕ) : Type 0 where
  pub next : IsNormal p.1.next
  pub within : EndsBelow p.1.next p.0.sizes.slots
  pub count : words ≡ next_words p.1

-- the machine and its buffers go together
abbrev pub set_goes_at : Stage → SetPair → Type 0
set_goes_at Head p = Unit {0}
set_goes_at (ListLen at) p = (p.1.read ≡ []) × (p.1.next ≡ []) × (list_base p.0.sizes ≤ at) × (at < list_end p.0.sizes)
set_goes_at (ListLow at left) p = IsReading p left × (at + pairs_size left ≤ list_end p.0.sizes)
set_goes_at (ListHigh at left lo) p = IsReading p left × (at + pairs_size left ≤ list_end p.0.sizes + 1) × IsNextLow p.0.sizes p.1.read lo
set_goes_at Counter p = HasRead p.0.sizes p.1.read × (p.1.next ≡ [])
set_goes_at (Slot slot) p = IsAtSlot p slot
set_goes_at (Len slot at) p = IsAtSlot p slot × (pool_base p.0.sizes ≤ at) × (at < pool_end p.0.sizes)
set_goes_at (Index slot at left) p = IsAtSlot p slot × (0 < left) × (left ≤ p.0.sizes.m) × (at + left ≤ pool_end p.0.sizes)
set_goes_at (Claim words) p = HasNext p words
set_goes_at (Write at k words word) p =
    HasNext p words × (k < words) × (at + words ≤ list_end p.0.sizes) × (word ≡ slice_index (list_block p.1.next) k)
set_goes_at (Publish at) p = IsNormal p.1.next × EndsBelow p.1.next p.0.sizes.slots
set_goes_at Done p = Unit {0}

-- a getSet and its buffers go together: its sizes and what it has found, and what holds at its stage
pub record SetGoesTogether (p : SetPair) : Type 0 where
  pub sizes : AreFoundFor p.0.sizes p.1
  pub stage : set_goes_at p.0.stage p
