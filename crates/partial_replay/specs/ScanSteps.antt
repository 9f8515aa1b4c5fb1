-- How many steps the answered scans of a replay make.
use Rattle.std.specs.Prelude.{ℕ, ◌≡◌, ◌<◌, List, ◌∷◌, ◌++◌, length, map, take, drop, Option, Some}
use Rattle.std.specs.Option.{option_map}
use Rattle.partial_model.specs.declared.call.Call.{Call}
use Rattle.partial_model.specs.declared.call.Answer.{Answer}
use Rattle.partial_model.specs.declared.call.Called.{Called}
use Rattle.partial_machine.specs.Machine.{CoreState, fresh}
use Rattle.partial_machine.specs.Steps.{AreOfScan, pairs_loaded}
use Rattle.partial_text.specs.PlanText.{PlanView, IsPlan}
use Rattle.partial_replay.specs.Trace.{Moment, moments_by}
use Rattle.partial_machine.specs.Calls.{begun_of}
use Rattle.partial_replay.specs.CallSteps.{IsCallRun, AreStepsOf}
use Rattle.partial_replay.specs.Listed.{calls_by, steps_in}
use Rattle.partial_replay.specs.Replayed.{IsReplayOf, OutcomeView}

-- the answers of a call's events
abbrev pub moment_answers : List Moment → List ℕ
moment_answers own = map (λ x. x.event.answer) own

-- of a port's events, those of the calls in front of a call
abbrev pub events_in_front : List Called → List Moment → List Moment
events_in_front front xs = take (steps_in front) xs

-- the events of a call of a port, after those of the calls in front of it
abbrev pub own_events : List Called → Called → List Moment → List Moment
own_events front c xs = take c.steps (drop (steps_in front) xs)

-- The call after those in front of it, of the port that has the machine `first` at opening and these events:
-- its own events are the steps of the machine to which the calls in front lead, and they are as many as the
-- positions and collects ask for, and as the pairs that it loaded when it borrowed a view.
pub record ScanMakesItsSteps (first : CoreState) (xs : List Moment) (front : List Called) (c : Called) (positions collects : ℕ)
    (borrowed : Option ℕ) : Type 0 where
  pub s : CoreState
  pub t : CoreState
  pub led : AreStepsOf first front (events_in_front front xs) s
  pub call' : IsCallRun s c (own_events front c xs) t
  pub events : length (own_events front c xs) ≡ c.steps
  pub steps : AreOfScan positions collects (pairs_loaded (begun_of s c.call) (moment_answers (own_events front c xs))) c.steps borrowed

-- an answered scan of any position makes its steps
abbrev pub IsOfItsScan : CoreState → List Moment → List Called → Called → Type 0
IsOfItsScan first xs front c = (js vs : List ℕ) (collects : ℕ) (borrowed : Option ℕ) →
    c.call ≡ Call.Scan js → 0 < length js → option_map (λ f. f.answer) c.finish ≡ Some (Answer.Scanned vs collects borrowed) →
    ScanMakesItsSteps first xs front c (length js) collects borrowed

-- in the replay of a plan each answered scan does, among the calls and the events of its port in the trace
abbrev pub AnsweredScansMakeTheirSteps : Type 0
AnsweredScansMakeTheirSteps = (p : PlanView) (outcome : OutcomeView) → IsPlan p → IsReplayOf p outcome →
    (q : ℕ) (front : List Called) (c : Called) (behind : List Called) → calls_by q outcome.calls ≡ front ++ c ∷ behind →
    IsOfItsScan (fresh p.sizes q) (moments_by p.sizes.m q outcome.trace) front c
