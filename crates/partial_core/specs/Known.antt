-- What a port knows, and what follows from the answers that it keeps.
use Rattle.std.specs.Prelude.{ℕ, ◌≡◌, ◌+◌, ◌<◌, ◌≤◌, ◌==◌, ⊤, true, false, List, [], ◌∷◌, ◌++◌, length, take, Option, Some, if◌then◌else◌}
use Rattle.partial_model.specs.declared.history.Applied.{Applied}
use Rattle.partial_model.specs.declared.history.Opening.{Opening}
use Rattle.partial_model.specs.Notes.{Noted, LegalNotes, seen_by}
use Rattle.partial_words.specs.declared.step.Step.{Step}
use Rattle.partial_words.specs.declared.step.Step.TheVariants.{Load}
use Rattle.partial_words.specs.Layout.{Layout, most_ports}
use Rattle.partial_machine.specs.Machine.{CoreState, advance, step_of}
use Rattle.partial_machine.specs.Calls.{is_at_rest}
use Rattle.partial_machine.specs.Sound.{IsSound}
use Rattle.partial_machine.specs.Possible.{IsPossible}
use Rattle.partial_state.specs.Holdings.{Holding}
use Rattle.partial_state.specs.Loads.{KeptAnswer, IsLoaded}
use Rattle.partial_core.specs.Part.{Part, core_of, port_of, has_no_step}

-- what a load returned stays true
abbrev pub IsTrueYet : Layout → Opening → List ℕ → List Holding → List Applied → Option Step → KeptAnswer → Type 0
IsTrueYet z o words hs log (Some (Load w)) k = IsLoaded z o words hs log w k
IsTrueYet z o words hs log _ k = ⊤

-- an answer that a machine was given: the words may give it, the lengths of the history never fall, and a load's is true yet
pub record IsAnswerKept (z : Layout) (o : Opening) (words : List ℕ) (hs : List Holding) (log : List Applied) (low : ℕ) (s : CoreState)
    (k : KeptAnswer) : Type 0 where
  pub possible : IsPossible s k.answer
  pub behind : low ≤ k.at
  pub within : k.at ≤ length log
  pub true_yet : IsTrueYet z o words hs log (step_of s) k

-- the answers of a call, from a machine on
abbrev pub AreAnswersKept : Layout → Opening → List ℕ → List Holding → List Applied → ℕ → CoreState → List KeptAnswer → Type 0
AreAnswersKept z o words hs log low s [] = ⊤
AreAnswersKept z o words hs log low s (k ∷ ks) = IsAnswerKept z o words hs log low s k ×
    AreAnswersKept z o words hs log k.at (advance s k.answer) ks

-- what a port knows
pub record IsKnown (z : Layout) (o : Opening) (words : List ℕ) (hs : List Holding) (log : List Applied) (x : Part) : Type 0 where
  pub port : port_of x < most_ports
  pub sizes : x.begun.sizes ≡ z
  -- it has seen the beginning of the history
  pub seen : x.seen ≡ take (length x.seen) log
  -- its notes are legal in what it has seen, and show no more than that
  pub notes : LegalNotes o x.seen (port_of x) 0 x.notes
  pub shown : seen_by 0 x.notes ≤ length x.seen
  -- the machine as its call began is sound, and has made no step
  pub sound : IsSound x.begun
  pub begun : has_no_step x.begun.stage ≡ true
  -- as its call began it had seen no more than now, and all that its notes of earlier calls show
  pub since : x.since ≤ length x.seen
  pub earlier : seen_by 0 (take x.past x.notes) ≤ x.since
  -- since then it has noted that call at most, and nothing while the call goes on
  pub past : x.past ≤ length x.notes
  pub one : length x.notes ≤ x.past + 1
  pub going : is_at_rest (core_of x).stage ≡ false → x.past ≡ length x.notes
  -- each answer was possible when it was given, and what a load answered is true yet
  pub kept : AreAnswersKept z o words hs log x.since x.begun x.kept

-- the notes of the part that has this port
abbrev pub notes_by : ℕ → List Part → List Noted
notes_by p [] = []
notes_by p (x ∷ xs) = (if port_of x == p then x.notes else []) ++ notes_by p xs
