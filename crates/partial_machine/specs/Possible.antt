-- The answers that words may give to a machine's step.
use Rattle.std.specs.Prelude.{ℕ, ◌≡◌, ◌+◌, ◌*◌, ◌<◌, ◌≤◌, ⊤, Bool, true, false, List, length, Some}
use Rattle.partial_words.specs.declared.step.Step.{Step}
use Rattle.partial_words.specs.Step.{answer_of, word_of}
use Rattle.partial_words.specs.Layout.{Layout, pool_base, pool_end, greatest_claim, most_ports}
use Rattle.partial_active.specs.GetSetAnswers as finding_answers
use Rattle.partial_embedded.specs.Embedded as viewing
use Rattle.partial_machine.specs.declared.stage.Stage.{Stage}
use Rattle.partial_machine.specs.declared.stage.Stage.TheVariants.{Idle, ReadBegun, LoadingValue, UpdateBegun, GettingSet, Viewing, ClaimingRecord, StoringRecord, Exchanging, ScanBegun, StoringAnnouncement, Joining, Scanning, Leaving, Finished}
use Rattle.partial_machine.specs.Machine.{CoreState, getting, scanning, has_spare, step_of}
use Rattle.partial_machine.specs.Sound.{IsRecord}

-- a counter of the pool is at its first word or after it, and past its end by a claim of each of the most ports at most
abbrev pub IsPoolCount : Layout → ℕ → Type 0
IsPoolCount z x = (pool_base z ≤ x) × (x ≤ pool_end z + most_ports * greatest_claim z)

-- what answers the step by which an update begins its record: a store in its spare words, or a claim
abbrev pub IsRecordAnswer : Bool → Layout → ℕ → Type 0
IsRecordAnswer true z x = x ≡ 0
IsRecordAnswer false z x = IsPoolCount z x

-- the answers that words may give
abbrev pub IsPossibleAt : CoreState → Stage → ℕ → Type 0
IsPossibleAt s Idle x = ⊥
IsPossibleAt s (ReadBegun j) x = IsRecord s.sizes x
IsPossibleAt s (LoadingValue stamp) x = ⊤
IsPossibleAt s (UpdateBegun c) x = IsRecord s.sizes x
IsPossibleAt s (GettingSet c old) x = finding_answers.IsPossibleInSet (getting s) x
IsPossibleAt s (Viewing c old) x = viewing.IsPossibleInView (scanning s) x
IsPossibleAt s (ClaimingRecord c old) x = IsRecordAnswer (has_spare s) s.sizes x
IsPossibleAt s (StoringRecord c old at k) x = x ≡ 0
IsPossibleAt s (Exchanging c old at) x = IsRecord s.sizes x
IsPossibleAt s ScanBegun x = IsPoolCount s.sizes x
IsPossibleAt s (StoringAnnouncement at k) x = x ≡ 0
IsPossibleAt s Joining x = x ≤ s.sizes.slots + most_ports
IsPossibleAt s Scanning x = viewing.IsPossibleInView (scanning s) x
IsPossibleAt s Leaving x = x ≡ 0
IsPossibleAt s (Finished r) x = ⊥

-- a step is due, and the words may give this answer to it
abbrev pub IsPossible : CoreState → ℕ → Type 0
IsPossible s x = IsPossibleAt s s.stage x

-- the step that is due is about one of the words, and they may give the answer that they give
pub record MayPerform (s : CoreState) (words : List ℕ) : Type 0 where
  pub step : Step
  pub due : step_of s ≡ Some step
  pub within : word_of step < length words
  pub possible : IsPossible s (answer_of words step)
