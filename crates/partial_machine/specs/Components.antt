-- Which component words a call loads, and how its embedded scan ends, over every run.
use Rattle.std.specs.Prelude.{ℕ, ◌≡◌, ◌+◌, ◌<◌, ◌≤◌, ◌⊎◌, ⊤, Bool, true, false, List, ◌++◌, length, Some}
use Rattle.partial_model.specs.declared.call.Call.{Call}
use Rattle.partial_words.specs.declared.step.Step.TheVariants.{Load}
use Rattle.partial_words.specs.Layout.{Layout, IsLayout}
use Rattle.partial_embedded.specs.declared.embedded.Stage.TheVariants.{Done}
use Rattle.partial_embedded.specs.Embedded.{ViewPair, RowsState}
use Rattle.partial_embedded.specs.Runs.{EndsWell, IsOfPosition, RunsTo}
use Rattle.partial_machine.specs.declared.stage.Change.{Change}
use Rattle.partial_machine.specs.declared.stage.Stage.{Stage}
use Rattle.partial_machine.specs.declared.stage.Stage.TheVariants.{Viewing, ClaimingRecord, Scanning, Leaving}
use Rattle.partial_machine.specs.Machine.{CoreState, scanning, step_of}
use Rattle.partial_machine.specs.Calls.{call_of}
use Rattle.partial_machine.specs.Sound.{IsSound}
use Rattle.partial_machine.specs.Steps.{Run}

-- the last of these answers are those of one embedded scan of these positions, from its begin to where it is
pub record EndsInScan (z : Layout) (shares : Bool) (positions answers : List ℕ) (p : ViewPair) : Type 0 where
  pub front : List ℕ
  pub own : List ℕ
  pub is : answers ≡ front ++ own
  pub rows : RowsState
  pub runs : RunsTo z shares positions rows own p

-- While a call makes its embedded scan, its last answers are those of that scan: a scan's is of its own positions, and an update's, which
-- shares a view that it borrows, of those that its getSet found. Right after it the embedded scan is finished.
abbrev pub scans_at : List ℕ → CoreState → Stage → Type 0
scans_at answers t Scanning = EndsInScan t.sizes false t.asked answers (scanning t)
scans_at answers t Leaving = EndsInScan t.sizes false t.asked answers (scanning t) × (t.embedded.stage ≡ Done)
scans_at answers t (Viewing c old) = EndsInScan t.sizes true t.found.indices answers (scanning t)
scans_at answers t (ClaimingRecord c old) =
    0 < length t.found.indices → EndsInScan t.sizes true t.found.indices answers (scanning t) × (t.embedded.stage ≡ Done)
scans_at answers t _ = ⊤

-- the embedded scan of a call is a run of the machine of embedded scans, of the call's positions
abbrev pub CallsMakeEmbeddedScans : Type 0
CallsMakeEmbeddedScans = (s t : CoreState) (c : Call) (xs : List ℕ) → IsLayout s.sizes → IsSound s → call_of s ≡ Some c → Run s xs t →
    scans_at xs t t.stage

-- an embedded scan of these positions has ended: by two equal collects or a third record at one position, in at most two collects more
-- than there are positions
pub record HasScanned (positions answers : List ℕ) (p : ViewPair) : Type 0 where
  pub front : List ℕ
  pub own : List ℕ
  pub is : answers ≡ front ++ own
  pub few : p.0.collects ≤ length positions + 2
  pub ends : EndsWell positions own p

-- the embedded scan of a call ends well: a scan's before it leaves, and an update's, when its getSet found anything, before its claim
pub record EmbeddedScansEndWell : Type 0 where
  pub scan : (s t : CoreState) (c : Call) (xs : List ℕ) → IsLayout s.sizes → IsSound s → call_of s ≡ Some c → Run s xs t →
      t.stage ≡ Leaving → HasScanned t.asked xs (scanning t)
  pub update : (s t : CoreState) (c : Call) (xs : List ℕ) → IsLayout s.sizes → IsSound s → call_of s ≡ Some c → Run s xs t →
      (change : Change) (old : ℕ) → t.stage ≡ ClaimingRecord change old → 0 < length t.found.indices → HasScanned t.found.indices xs (scanning t)

-- the component words that a call may load: its own, and those of the positions of its embedded scan
abbrev pub MayLoad : Call → CoreState → ℕ → Type 0
MayLoad (Call.Update j v) t w = (w ≡ j) ⊎ IsOfPosition t.found.indices w
MayLoad (Call.UpdateIf j x v) t w = (w ≡ j) ⊎ IsOfPosition t.found.indices w
MayLoad (Call.Scan js) t w = IsOfPosition js w
MayLoad (Call.Read j) t w = w ≡ j

-- a scan loads no component word but those of its positions, an update its own and those that its getSet found, and a read its own
abbrev pub CallsLoadTheirComponents : Type 0
CallsLoadTheirComponents = (s t : CoreState) (c : Call) (xs : List ℕ) (w : ℕ) → IsLayout s.sizes → IsSound s → call_of s ≡ Some c → Run s xs t →
    step_of t ≡ Some (Load w) → w < t.sizes.m → MayLoad c t w
