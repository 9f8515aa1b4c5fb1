-- The lists of vacated slots that a getSet reads and makes, over the moments of its steps.
use Rattle.std.specs.Prelude.{ℕ, ◌≡◌, ◌+◌, ◌<◌, ◌≤◌, ◌↔◌, ◌⊎◌, Bool, true, false, Some, None, List, [], ◌∷◌, length, slice_index}
use Rattle.partial_intervals.specs.Intervals.{Ranges, Holds, IsNormal}
use Rattle.partial_words.specs.declared.step.Step.TheVariants.{Store, Exchange}
use Rattle.partial_words.specs.declared.step.Event.{Event}
use Rattle.partial_words.specs.Layout.{Layout, IsLayout, list_head, list_counter, list_base, list_end}
use Rattle.partial_words.specs.VacatedList.{list_block}
use Rattle.partial_active.specs.declared.get_set.Stage.{Stage}
use Rattle.partial_active.specs.declared.get_set.Stage.TheVariants.{Head, ListLen, ListLow, ListHigh, Slot, Claim, Write, Publish}
use Rattle.partial_active.specs.Found.{Buffers, AreFoundFor}
use Rattle.partial_active.specs.GetSet.{SetPair, fresh_set, set_step_due, advance_set}
use Rattle.partial_active.specs.Orderly.{slot_at, head_at, IsVacatedList}
use Rattle.partial_active.specs.Moments.{AtSome, AtSomeStep, IsOrderlyRun, MakesOwn, own_moments}

-- the list was vacated: a normal form within the slots, and each of its slots was VACATED at one of the moments
pub record WasVacated (s : Layout) (moments : List (List ℕ)) (list : Ranges) : Type 0 where
  pub normal : IsNormal list
  pub within : (x : ℕ) → Holds list x → x < s.slots
  pub vacated : (x : ℕ) → Holds list x → AtSome (λ words. slot_at s words x ≡ 1) moments

-- the list is still being read
abbrev pub is_reading : Stage → Bool
is_reading Head = true
is_reading (ListLen at) = true
is_reading (ListLow at left) = true
is_reading (ListHigh at left lo) = true
is_reading _ = false

-- the list at the list head: none, or a whole list of vacated slots
abbrev pub IsListOf : Layout → List ℕ → Ranges → Type 0
IsListOf s words list = ((head_at s words ≡ 0) × (list ≡ [])) ⊎ IsVacatedList s words (head_at s words) list

-- what the list head holds at the first of the moments
abbrev pub first_head : Layout → List (List ℕ) → ℕ
first_head s [] = 0
first_head s (first ∷ more) = head_at s first

-- the list at the list head at the first of the moments
abbrev pub IsFirstList : Layout → List (List ℕ) → Ranges → Type 0
IsFirstList s [] list = ⊥
IsFirstList s (first ∷ more) list = IsListOf s first list

-- the machine loads the slot, which is VACATED
abbrev pub FindsVacated : Layout → ℕ → SetPair → List ℕ → Type 0
FindsVacated s slot p words = (p.0.stage ≡ Slot slot) × (slot_at s words slot ≡ 1)

-- the machine claims so many list words, and gets those from that word on
abbrev pub ClaimsWords : Layout → ℕ → ℕ → SetPair → List ℕ → Type 0
ClaimsWords s count at p words = (p.0.stage ≡ Claim count) × (slice_index words (list_counter s) ≡ at)

-- the machine stores the word
abbrev pub StoresWord : ℕ → ℕ → SetPair → List ℕ → Type 0
StoresWord at word p words = set_step_due p.0 ≡ Some (Store at word)

-- the next list is whole: it was vacated, and its slots are those of the list read and those that were found VACATED
pub record IsNextList (s : Layout) (start : SetPair) (moments : List (List ℕ)) (q : SetPair) : Type 0 where
  pub vacated : WasVacated s moments q.1.next
  pub slots : (x : ℕ) → Holds q.1.next x ↔ (Holds q.1.read x ⊎ AtSomeStep (FindsVacated s x) start moments)

-- n words of its block are stored, from the word on which its claim gave; all of them lie within the list words
pub record IsStored (s : Layout) (start : SetPair) (moments : List (List ℕ)) (q : SetPair) (at n : ℕ) : Type 0 where
  pub claimed : AtSomeStep (ClaimsWords s (length (list_block q.1.next)) at) start moments
  pub from : list_base s ≤ at
  pub to : at + length (list_block q.1.next) ≤ list_end s
  pub stored : (k : ℕ) → k < n → AtSomeStep (StoresWord (at + k) (slice_index (list_block q.1.next) k)) start moments

-- what a getSet does with lists of vacated slots on its way to the state q by these moments
pub record KeepsLists (s : Layout) (start : SetPair) (moments : List (List ℕ)) (q : SetPair) : Type 0 where
  -- the list that it read is the one at the list head at its first step
  pub reads : is_reading q.0.stage ≡ false → IsFirstList s moments q.1.read
  -- a slot of the list that it read is not loaded
  pub loads_none : (slot : ℕ) → q.0.stage ≡ Slot slot → Holds q.1.read slot → ⊥
  -- it claims the words of the next list
  pub claims : (count : ℕ) → q.0.stage ≡ Claim count → IsNextList s start moments q × (count ≡ length (list_block q.1.next))
  -- what it stores are the words of the block of that list, one after another
  pub writes : (at k count word : ℕ) → q.0.stage ≡ Write at k count word →
      IsNextList s start moments q × IsStored s start moments q at k × (word ≡ slice_index (list_block q.1.next) k)
  -- what it publishes is that list, whole, in the place of the one that it read
  pub publishes : (at : ℕ) → q.0.stage ≡ Publish at →
      IsNextList s start moments q × IsStored s start moments q at (length (list_block q.1.next))
      × (set_step_due q.0 ≡ Some (Exchange (list_head s) (first_head s moments) at))
  -- the answer of the exchange of the list head changes nothing
  pub exchange : (at x y : ℕ) → q.0.stage ≡ Publish at → advance_set q x ≡ advance_set q y
  -- a claim past the list words marks the port and ends the getSet, with all that it found
  pub refused : (count x : ℕ) → q.0.stage ≡ Claim count → list_end q.0.sizes < x + count →
      (set_step_due (advance_set q x).0 ≡ None) × ((advance_set q x).0.lists_spent ≡ true) × ((advance_set q x).1 ≡ q.1)

-- a getSet keeps the lists at each of its stages
abbrev pub GetSetsKeepLists : Type 0
GetSetsKeepLists = (s : Layout) (spent : Bool) (f : Buffers) (own : ℕ) (words : List ℕ) (events : List Event) (q : SetPair) →
    IsLayout s → AreFoundFor s f → IsOrderlyRun s words events → MakesOwn own (fresh_set s spent, f) words events q →
    KeepsLists s (fresh_set s spent, f) (own_moments own words events) q
