-- What a getSet knows at each of its stages, by facts of the words that it loaded.
use Rattle.std.specs.Prelude.{ℕ, ◌≡◌, ◌+◌, ◌<◌, ◌≤◌, true, false, List, length, take, slice_index}
use Rattle.partial_intervals.specs.Intervals.{Ranges, lowest, Holds}
use Rattle.partial_words.specs.Announcement.{announced_word}
use Rattle.partial_words.specs.VacatedList.{low_word, high_word}
use Rattle.partial_active.specs.declared.get_set.Stage.{Stage}
use Rattle.partial_active.specs.declared.get_set.Stage.TheVariants.{Head, ListLen, ListLow, ListHigh, Counter, Slot, Len, Index, Claim, Write, Publish, Done}
use Rattle.partial_active.specs.IndexSet.{has_index}
use Rattle.partial_active.specs.GetSet.{SetPair}

-- What is known of slots and of blocks: a slot is VACATED; a list stands at a word; a slot refers to an announcement, of these
-- indices, at a word; among these indices that were found is each one that a slot announces.
pub record Facts : Type 1 where
  pub vacated : ℕ → Type 0
  pub lists : ℕ → Ranges → Type 0
  pub announces : ℕ → ℕ → List ℕ → Type 0
  pub complete : List ℕ → ℕ → Type 0

-- each slot of the list is VACATED
abbrev pub AreVacated : Facts → Ranges → Type 0
AreVacated t list = (x : ℕ) → Holds list x → t.vacated x

-- the first n of these indices were found
abbrev pub HasFirst : List ℕ → List ℕ → ℕ → Type 0
HasFirst indices named n = (k : ℕ) → k < n → has_index indices (slice_index named k) ≡ true

-- each of these indices was found
abbrev pub HasEach : List ℕ → List ℕ → Type 0
HasEach indices named = HasFirst indices named (length named)

-- so much of the list is read
pub record HasReadSo (t : Facts) (from : ℕ) (list read : Ranges) (left : ℕ) : Type 0 where
  pub stands : t.lists from list
  pub read_is : read ≡ take (length read) list
  pub sum : length read + left ≡ length list

-- so much of the announcement is read
pub record HasReadNamed (t : Facts) (slot at left : ℕ) (indices : List ℕ) (from : ℕ) (named : List ℕ) (i : ℕ) : Type 0 where
  pub shown : t.announces slot from named
  pub place : at ≡ announced_word from i
  pub sum : i + left ≡ length named
  pub so_far : HasFirst indices named i

-- the slots below that one are done, and those from the end on
pub record HasWalked (t : Facts) (end : ℕ) (read next : Ranges) (indices : List ℕ) (slot : ℕ) : Type 0 where
  pub listed : AreVacated t read
  pub noted : AreVacated t next
  pub below : (l : ℕ) → l < slot → t.complete indices l
  pub beyond : (l : ℕ) → end ≤ l → t.complete indices l

-- a getSet has walked the slots below that one
abbrev pub walks : Facts → SetPair → ℕ → Type 0
walks t p slot = HasWalked t p.0.end p.1.read p.1.next p.1.indices slot

-- the slots are walked: what was noted is VACATED, and nothing is missing
abbrev pub has_found : Facts → SetPair → Type 0
has_found t p = AreVacated t p.1.next × ((l : ℕ) → t.complete p.1.indices l)

-- what is known at a stage; a claim is made only when the port isn't marked
abbrev pub knows_by : Facts → Stage → SetPair → Type 0
knows_by t Head p = Unit {0}
knows_by t (ListLen at) p = (list : Ranges) × t.lists at list
knows_by t (ListLow at left) p =
    (from : ℕ) × (list : Ranges) × HasReadSo t from list p.1.read left × (at ≡ low_word from (length p.1.read))
knows_by t (ListHigh at left lo) p =
    (from : ℕ) × (list : Ranges) × HasReadSo t from list p.1.read left × (at ≡ high_word from (length p.1.read))
    × (lo ≡ lowest list (length p.1.read))
knows_by t Counter p = AreVacated t p.1.read
knows_by t (Slot slot) p = walks t p slot
knows_by t (Len slot at) p = walks t p slot × ((named : List ℕ) × t.announces slot at named)
knows_by t (Index slot at left) p =
    walks t p slot × ((from : ℕ) × (named : List ℕ) × (i : ℕ) × HasReadNamed t slot at left p.1.indices from named i)
knows_by t (Claim count) p = has_found t p × (p.0.lists_spent ≡ false)
knows_by t (Write at k count word) p = has_found t p
knows_by t (Publish at) p = has_found t p
knows_by t Done p = has_found t p

-- what a getSet knows at its stage
abbrev pub KnowsBy : Facts → SetPair → Type 0
KnowsBy t p = knows_by t p.0.stage p
