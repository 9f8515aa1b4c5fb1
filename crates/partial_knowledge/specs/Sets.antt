-- What a getSet knows at each of its stages by the answers that it has kept, in lawful words.
use Rattle.std.specs.Prelude.{ℕ, ◌≡◌, ◌<◌, ◌≤◌, List, length, slice_index, Option, Some, None}
use Rattle.partial_words.specs.declared.step.Step.{Step}
use Rattle.partial_words.specs.declared.step.Step.TheVariants.{Load, Store, Exchange, Add}
use Rattle.partial_model.specs.declared.history.Applied.{Applied}
use Rattle.partial_model.specs.declared.history.Opening.{Opening}
use Rattle.partial_words.specs.Layout.{Layout, slot_word, list_base, total}
use Rattle.partial_active.specs.GetSet.{SetPair, set_step_due, advance_set}
use Rattle.partial_active.specs.GetSetAnswers.{IsPossibleInSet, SetGoesTogether}
use Rattle.partial_active.specs.Knowledge.{Facts, HasEach, KnowsBy}
use Rattle.partial_state.specs.Views.{JoinedAnnouncement, IsAnnounced, IsPublishedList}
use Rattle.partial_state.specs.Holdings.{Holding, unpublished}
use Rattle.partial_state.specs.LawfulWords.{LawfulWords}
use Rattle.partial_state.specs.Loads.{KeptAnswer, IsLoaded, IsPublished}
use Rattle.partial_knowledge.specs.Joins.{Joins}

-- each index of the announcement was found
abbrev pub HasAll : List ℕ → JoinedAnnouncement → Type 0
HasAll indices j = HasEach indices j.indices

-- the announcement in the slot is the one at that word, for a port that joined below `low`
abbrev pub IsInSlot : List Holding → ℕ → ℕ → ℕ → Type 0
IsInSlot hs low slot at = (j : JoinedAnnouncement) → Joins hs slot j → j.since < low → j.at ≡ at

-- the announcement in the slot was found, for a port that joined below `low`
abbrev pub FindsIn : List Holding → ℕ → List ℕ → ℕ → Type 0
FindsIn hs low indices slot = (j : JoinedAnnouncement) → Joins hs slot j → j.since < low → HasAll indices j

-- each announcement of a port that joined below `low` was found
abbrev pub FindsJoined : List Holding → ℕ → List ℕ → Type 0
FindsJoined hs low indices = (l : ℕ) → FindsIn hs low indices l

-- what lawful words show a getSet, of the ports that joined below `low`
abbrev pub facts_of_words : Layout → List ℕ → List Holding → ℕ → Facts
facts_of_words z words hs low = record {
  vacated = λ x. (x < z.slots) × (slice_index words (slot_word z x) ≡ 1);
  lists = λ at list. IsPublishedList z words (unpublished hs) at list;
  announces = λ slot at named. IsAnnounced z words (unpublished hs) at named × IsInSlot hs low slot at;
  complete = λ indices slot. FindsIn hs low indices slot;
}

-- what a getSet knows of lawful words by its answers
abbrev pub SetKnows : Layout → List ℕ → List Holding → ℕ → SetPair → Type 0
SetKnows z words hs low p = KnowsBy (facts_of_words z words hs low) p

-- the word may be loaded: it is one of the words, and in no block that isn't published
abbrev pub IsReadable : Layout → List ℕ → List Holding → ℕ → Type 0
IsReadable z words hs w = (w < total z) × (list_base z ≤ w → IsPublished z words (unpublished hs) w)

-- an answer that a getSet keeps is a possible one; a load's was given at `low` or later and is true yet
abbrev pub IsKeptAnswer : Layout → Opening → List ℕ → List Holding → List Applied → ℕ → SetPair → Option Step → KeptAnswer → Type 0
IsKeptAnswer z o words hs log low p None k = ⊥
IsKeptAnswer z o words hs log low p (Some (Load w)) k = IsPossibleInSet p k.answer × (low ≤ k.at) × IsLoaded z o words hs log w k
IsKeptAnswer z o words hs log low p (Some (Store w v)) k = IsPossibleInSet p k.answer
IsKeptAnswer z o words hs log low p (Some (Exchange w old new)) k = IsPossibleInSet p k.answer
IsKeptAnswer z o words hs log low p (Some (Add w n)) k = IsPossibleInSet p k.answer

-- What a getSet knows leads on: a word that it is to load may be loaded and gives a possible answer, and
-- each answer that it keeps leads to what is known next.
pub record SetKnowsOn (z : Layout) (o : Opening) (words : List ℕ) (hs : List Holding) (log : List Applied) (low : ℕ) (p : SetPair) :
    Type 0 where
  pub readable : (w : ℕ) → set_step_due p.0 ≡ Some (Load w) → IsReadable z words hs w
  pub possible : (w : ℕ) → set_step_due p.0 ≡ Some (Load w) →
      IsLoaded z o words hs log w (record { answer = slice_index words w; at = length log }) → low ≤ length log →
      IsPossibleInSet p (slice_index words w)
  pub on : (k : KeptAnswer) → IsKeptAnswer z o words hs log low p (set_step_due p.0) k → SetKnows z words hs low (advance_set p k.answer)

-- in lawful words what a getSet knows leads on, from stage to stage
abbrev pub GetSetsKnow : Type 0
GetSetsKnow = (o : Opening) (words : List ℕ) (hs : List Holding) (log : List Applied) (low : ℕ) (p : SetPair) →
    LawfulWords p.0.sizes o words hs log → SetGoesTogether p → SetKnows p.0.sizes words hs low p → SetKnowsOn p.0.sizes o words hs log low p
