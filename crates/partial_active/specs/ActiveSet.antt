-- The active set that a getSet finds over the moments of its steps, and the order in which it names the indices.
use Rattle.std.specs.Prelude.{ℕ, ◌≡◌, ◌+◌, ◌*◌, ◌<◌, ◌≤◌, ◌↔◌, Bool, true, nat_eq, Some, None, List, [], ◌∷◌, length, map, slice_index, Contains}
use Rattle.std.specs.List.{IsDistinct, flat_map}
use Rattle.partial_words.specs.declared.step.Step.{Step}
use Rattle.partial_words.specs.declared.step.Event.{Event}
use Rattle.partial_words.specs.Layout.{Layout, IsLayout}
use Rattle.partial_words.specs.Step.{answer_of}
use Rattle.partial_active.specs.declared.get_set.Stage.TheVariants.{Slot}
use Rattle.partial_active.specs.IndexSet.{has_index, with_index}
use Rattle.partial_active.specs.Found.{Buffers, AreFoundFor}
use Rattle.partial_active.specs.GetSet.{SetPair, fresh_set, set_step_due}
use Rattle.partial_active.specs.GetSetAnswers.{IsPossibleInSet}
use Rattle.partial_active.specs.Orderly.{slot_at, IsAnnouncement}
use Rattle.partial_active.specs.Moments.{OnEach, AtSome, AtSomeStep, IsOrderlyRun, MakesOwn, words_behind, own_moments}

-- at that moment an announcement that names the index stands in a slot
pub record Names (s : Layout) (index : ℕ) (words : List ℕ) : Type 0 where
  pub slot : ℕ
  pub named : List ℕ
  pub place : ℕ
  pub slot_within : slot < s.slots
  pub announcement : IsAnnouncement s words (slot_at s words slot) named
  pub place_within : place < length named
  pub index_there : slice_index named place ≡ index

-- the indices of an active set over these moments: those of each announcement that stood in its slot at
-- all of them, and none but those of announcements that stood in a slot at some of them
pub record IsActiveSet (s : Layout) (first : List ℕ) (moments : List (List ℕ)) (indices : List ℕ) : Type 0 where
  pub complete : (slot : ℕ) (named : List ℕ) → slot < s.slots → IsAnnouncement s first (slot_at s first slot) named →
      OnEach (λ words. slot_at s words slot ≡ slot_at s first slot) moments → (k : ℕ) → k < length named →
      has_index indices (slice_index named k) ≡ true
  pub sound : (j : ℕ) → has_index indices j ≡ true → AtSome (Names s j) moments

-- the same for the moments of the steps, the first of which begins the getSet
abbrev pub FindsActiveSet : Layout → List (List ℕ) → List ℕ → Type 0
FindsActiveSet s [] indices = ⊥
FindsActiveSet s (first ∷ more) indices = IsActiveSet s first (first ∷ more) indices

-- an announcement that a getSet has found, and its slot
pub record Announcement : Type 0 where
  pub slot : ℕ
  pub named : List ℕ

-- the machine loads the slot of the announcement, which stands there
abbrev pub FindsAnnouncement : Layout → Announcement → SetPair → List ℕ → Type 0
FindsAnnouncement s a p words = (p.0.stage ≡ Slot a.slot) × IsAnnouncement s words (slot_at s words a.slot) a.named

-- the indices with others after them, each of which is put at the end unless it is there already
abbrev pub with_all : List ℕ → List ℕ → List ℕ
with_all indices [] = indices
with_all indices (index ∷ more) = with_all (with_index indices index) more

-- the numbers in order, each at its first appearance alone
abbrev pub each_once : List ℕ → List ℕ
each_once numbers = with_all [] numbers

-- each number is greater than those before it
abbrev pub AreRising : List ℕ → Type 0
AreRising numbers = (j k : ℕ) → j < k → k < length numbers → slice_index numbers j < slice_index numbers k

-- the indices are those of the announcements that the machine found, in the order of their slots and then of the
-- positions, each at its first appearance
pub record AreInOrder (s : Layout) (start : SetPair) (moments : List (List ℕ)) (indices : List ℕ) : Type 0 where
  pub found : List Announcement
  pub rising : AreRising (map (λ a. a.slot) found)
  pub loaded : (a : Announcement) → Contains found a ↔ AtSomeStep (FindsAnnouncement s a) start moments
  pub gathered : indices ≡ each_once (flat_map (λ a. a.named) found)
  pub distinct : IsDistinct nat_eq indices

-- a getSet finds the active set over the moments of its steps
abbrev pub GetSetsFind : Type 0
GetSetsFind = (s : Layout) (spent : Bool) (f : Buffers) (own : ℕ) (words : List ℕ) (events : List Event) (q : SetPair) →
    IsLayout s → AreFoundFor s f → IsOrderlyRun s words events → MakesOwn own (fresh_set s spent, f) words events q →
    set_step_due q.0 ≡ None → FindsActiveSet s (own_moments own words events) q.1.indices

-- and names the indices in order
abbrev pub GetSetsFindInOrder : Type 0
GetSetsFindInOrder = (s : Layout) (spent : Bool) (f : Buffers) (own : ℕ) (words : List ℕ) (events : List Event) (q : SetPair) →
    IsLayout s → AreFoundFor s f → IsOrderlyRun s words events → MakesOwn own (fresh_set s spent, f) words events q →
    set_step_due q.0 ≡ None → AreInOrder s (fresh_set s spent, f) (own_moments own words events) q.1.indices

-- it makes few steps
abbrev pub GetSetsMakeFewSteps : Type 0
GetSetsMakeFewSteps = (s : Layout) (spent : Bool) (f : Buffers) (own : ℕ) (words : List ℕ) (events : List Event) (q : SetPair) →
    IsLayout s → AreFoundFor s f → IsOrderlyRun s words events → MakesOwn own (fresh_set s spent, f) words events q →
    length (own_moments own words events) ≤ s.slots * (s.m + 3) + s.lists + 6

-- a run of orderly events gives possible answers
abbrev pub OrderlyAnswersArePossible : Type 0
OrderlyAnswersArePossible = (s : Layout) (spent : Bool) (f : Buffers) (own : ℕ) (words : List ℕ) (events : List Event) (q : SetPair)
    (step : Step) →
    IsLayout s → AreFoundFor s f → IsOrderlyRun s words events → MakesOwn own (fresh_set s spent, f) words events q →
    set_step_due q.0 ≡ Some step → IsPossibleInSet q (answer_of (words_behind words events) step)
