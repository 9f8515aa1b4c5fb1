-- How many steps the calls make, over all possible answers.
use Rattle.std.specs.Prelude.{ℕ, ◌≡◌, ◌+◌, ◌*◌, ◌≤◌, Bool, true, false, List, [], ◌∷◌, length, Option, Some, None, if◌then◌else◌}
use Rattle.partial_model.specs.declared.call.Call.{Call}
use Rattle.partial_words.specs.Layout.{IsLayout}
use Rattle.partial_embedded.specs.declared.embedded.Stage.{Stage as ViewStage}
use Rattle.partial_embedded.specs.declared.embedded.Stage.TheVariants.{Len}
use Rattle.partial_machine.specs.declared.stage.Reply.{Reply}
use Rattle.partial_machine.specs.declared.stage.Stage.{Stage}
use Rattle.partial_machine.specs.declared.stage.Stage.TheVariants.{ReadBegun, ScanBegun, Scanning}
use Rattle.partial_machine.specs.Machine.{CoreState, advance, reply_of}
use Rattle.partial_machine.specs.Calls.{call_of}
use Rattle.partial_machine.specs.Sound.{IsSound}
use Rattle.partial_machine.specs.Possible.{IsPossible}
use Rattle.partial_machine.specs.Bounds.{most_steps, steps_left}

-- these answers lead the machine from one state to the other, each to a step that was due
abbrev pub Run : CoreState → List ℕ → CoreState → Type 0
Run s [] t = t ≡ s
Run s (x ∷ xs) t = IsPossible s x × Run (advance s x) xs t

-- over possible answers a machine stays sound, and each one is a step less
abbrev pub StaysSound : Type 0
StaysSound = (s t : CoreState) (xs : List ℕ) → IsLayout s.sizes → IsSound s → Run s xs t → IsSound t ×
    (length xs + steps_left t ≤ steps_left s)

-- a call makes few steps
abbrev pub MakesFewSteps : Type 0
MakesFewSteps = (s t : CoreState) (c : Call) (xs : List ℕ) → IsLayout s.sizes → IsSound s → call_of s ≡ Some c → Run s xs t →
    length xs + steps_left t ≤ most_steps s.sizes c

-- a read makes 2 steps
abbrev pub ReadsInTwo : Type 0
ReadsInTwo = (s t : CoreState) (i : ℕ) (xs : List ℕ) (r : Reply) → s.stage ≡ ReadBegun i → Run s xs t → reply_of t ≡ Some r → length xs ≡ 2

-- whether the step that is due is a scan's load of the number of pairs of a borrowed view
abbrev pub is_len : ViewStage → Bool
is_len (Len at) = true
is_len _ = false

-- whether a scan is about to load the number of pairs of the view that it borrows
abbrev pub loads_len : CoreState → Stage → Bool
loads_len s Scanning = is_len s.embedded.stage
loads_len s _ = false

-- how many pairs the view has that a scan borrows, as the run loads it: none when the view is empty
abbrev pub pairs_loaded : CoreState → List ℕ → ℕ
pairs_loaded s [] = 0
pairs_loaded s (x ∷ xs) = (if loads_len s s.stage then x else 0) + pairs_loaded (advance s x) xs

-- The steps of a scan of r positions with c collects: an exact number when it borrows
-- nothing, and at most a bound when it borrows a view of n pairs.
pub record AreOfScan (r c n steps : ℕ) (borrowed : Option ℕ) : Type 0 where
  pub own : borrowed ≡ None → steps ≡ r * (c + 2) + 5
  pub shared : (stamp : ℕ) → borrowed ≡ Some stamp → steps ≤ r * (c + 1) + 2 * n + 7

-- a scan makes its steps
abbrev pub ScansMakeTheirSteps : Type 0
ScansMakeTheirSteps = (s t : CoreState) (xs : List ℕ) (c : ℕ) (borrowed : Option ℕ) → IsLayout s.sizes → IsSound s → s.stage ≡ ScanBegun →
    Run s xs t → reply_of t ≡ Some (Reply.Scanned c borrowed) → AreOfScan (length s.asked) c (pairs_loaded s xs) (length xs) borrowed
