-- The turns of a replay: whose events they have made, and which ports have made all their calls.
use Rattle.std.specs.Prelude.{ℕ, ◌≡◌, ◌≢◌, ◌<◌, ◌≤◌, ◌==◌, ◌++◌, Bool, List, [], ◌∷◌, length, map, replicate, slice_get, Option, Some, None, MatchOption, MatchBool, if◌then◌else◌}
use Rattle.partial_model.specs.declared.call.Call.{Call}
use Rattle.partial_replay.specs.declared.port.Port.{Port}
use Rattle.partial_replay.specs.declared.run.Run.{Run}
use Rattle.partial_text.specs.PlanText.{PlanView}
use Rattle.partial_words.specs.declared.step.Event.{Event}
use Rattle.partial_replay.specs.Trace.{Moment, ports_of, events_in, moments_from}
use Rattle.partial_replay.specs.Turns.{turns_by, lengths_of, lengths_in}
use Rattle.partial_replay.specs.Inner.PortState.{HasTurned}
use Rattle.partial_replay.specs.Inner.RunState.{PortAt, IsBetweenTurns}
use Rattle.partial_replay.specs.Listed.{EndInStep}

-- the port with that number has made all its calls
pub record IsPortDone (plans : List (List Call)) (ports : List Port) (p : ℕ) : Type 0 where
  pub calls : List Call
  pub port : Port
  pub at : PortAt plans ports p calls port
  pub idle : port.under_way ≡ None
  pub all : length port.finished.items ≡ length calls

-- ports that have made all their calls have still made them
abbrev pub StayDone : List (List Call) → Run → Run → Type 0
StayDone plans old new = (q : ℕ) → IsPortDone plans old.ports.items q → IsPortDone plans new.ports.items q

-- the port with that number has begun no call since its last step
abbrev pub StopsAtStep : List Port → ℕ → Type 0
StopsAtStep ports q = (port : Port) → slice_get ports q ≡ Some port → port.under_way ≡ None → EndInStep port.finished.items

-- that stays so at each port
abbrev pub StayStopped : Run → Run → Type 0
StayStopped old new = (q : ℕ) → StopsAtStep old.ports.items q → StopsAtStep new.ports.items q

-- that stays so at each port but p
abbrev pub StayStoppedBut : ℕ → Run → Run → Type 0
StayStoppedBut p old new = (q : ℕ) → q ≢ p → StopsAtStep old.ports.items q → StopsAtStep new.ports.items q

-- that stays so at each port but p, and is so at p
abbrev pub StayStoppedWith : ℕ → Run → Run → Type 0
StayStoppedWith p old new = (q : ℕ) → (q ≢ p → StopsAtStep old.ports.items q) → StopsAtStep new.ports.items q

-- the trace goes on with n events of port p
pub record GoesOnBy (n p : ℕ) (old new : Run) : Type 0 where
  pub events : List Event
  pub trace : new.memory.trace ≡ old.memory.trace ++ events
  pub ports : ports_of events ≡ replicate n p

-- port q has begun its calls in turns in which the history was so long
abbrev pub BeganInTurns : ℕ → List (List Call) → ℕ → List ℕ → List Port → Type 0
BeganInTurns idle plans q lengths ports = (calls : List Call) (port : Port) → PortAt plans ports q calls port →
    HasTurned idle calls lengths port

-- the turns that are port q's, of those of port p
abbrev pub own_turns : ℕ → ℕ → List ℕ → List ℕ
own_turns q p lengths = if p == q then lengths else []

-- in a turn of port p in which the history is so long that port begins its next calls, and no other does
abbrev pub BeginsIn : List (List Call) → ℕ → ℕ → List Port → List Port → Type 0
BeginsIn plans p seen old new = (q : ℕ) (lengths : List ℕ) → BeganInTurns 0 plans q lengths old →
    (q ≢ p → BeganInTurns 0 plans q lengths new) × (q ≡ p → BeganInTurns 1 plans q (lengths ++ seen ∷ []) new)

-- in the turn port p then makes a step
abbrev pub StepsIn : List (List Call) → ℕ → List Port → List Port → Type 0
StepsIn plans p old new = (q : ℕ) (lengths : List ℕ) →
    (q ≢ p → BeganInTurns 0 plans q lengths old) → (q ≡ p → BeganInTurns 1 plans q lengths old) → BeganInTurns 0 plans q lengths new

-- port p has had turns in which the history was so long, and the ports have begun their calls in their turns
abbrev pub GoesOnIn : List (List Call) → ℕ → List ℕ → Run → Run → Type 0
GoesOnIn plans p own old new = (q : ℕ) (lengths : List ℕ) →
    BeganInTurns 0 plans q lengths old.ports.items → BeganInTurns 0 plans q (lengths ++ own_turns q p own) new.ports.items

-- the events of a run from another one on, each with the lengths of the history
abbrev pub moments_behind : Run → List Event → List Moment
moments_behind old events = moments_from old.memory.sizes.m (length old.memory.history.items) events

-- a turn of port p: it makes a step, or has made all its calls
pub record TurnMade (plans : List (List Call)) (p : ℕ) (old : Run) (stepped : Bool) (new : Run) : Type 0 where
  pub made : GoesOnBy (if stepped then 1 else 0) p old new
  pub begun : GoesOnIn plans p (length old.memory.history.items ∷ []) old new
  pub done : MatchBool stepped (¬ IsPortDone plans old.ports.items p) (IsPortDone plans new.ports.items p)
  pub kept : StayDone plans old new
  pub ending : MatchBool stepped (StayStopped old new) (StayStoppedBut p old new)

-- turns of port p in a row in which it made n steps
pub record StepsMade (plans : List (List Call)) (p n : ℕ) (old new : Run) : Type 0 where
  pub made : GoesOnBy n p old new
  pub begun : GoesOnIn plans p (map (λ x. x.before) (moments_behind old made.events)) old new
  pub none : IsPortDone plans old.ports.items p → n ≡ 0
  pub kept : StayDone plans old new

-- turns of port p in a row, so many or to its end: it makes a step in each until it has made all its calls
pub record TurnsMade (plans : List (List Call)) (p : ℕ) (turns : Option ℕ) (old new : Run) : Type 0 where
  pub steps : ℕ
  pub made : GoesOnBy steps p old new
  pub begun : GoesOnIn plans p (lengths_of turns (length old.memory.history.items) (moments_behind old made.events)) old new
  pub none : IsPortDone plans old.ports.items p → steps ≡ 0
  pub kept : StayDone plans old new
  pub all : MatchOption turns (IsPortDone plans new.ports.items p) (λ k. (steps ≤ k) × (steps < k → IsPortDone plans new.ports.items p))
  pub ending : (q : ℕ) → (q ≡ p → turns ≡ Some steps) → StopsAtStep old.ports.items q → StopsAtStep new.ports.items q

-- Port q has made n steps in an entry, and with them these events: a step in each turn until it has made
-- all its calls, which D says.
abbrev pub HasTurns : (ℕ → Type 0) → ℕ → Option ℕ → ℕ → List ℕ → Type 0
HasTurns D q None n behind = D q × (events_in q behind ≡ 0)
HasTurns D q (Some k) n behind = (n ≤ k) × (n < k → D q × (events_in q behind ≡ 0))

-- whose events the entries have made, one after the other
abbrev pub MakeTurns : (ℕ → Type 0) → List (ℕ × Option ℕ) → List ℕ → Type 0
MakeTurns D [] ports = ports ≡ []
MakeTurns D (e ∷ es) ports = (n : ℕ) × (behind : List ℕ) × (ports ≡ replicate n e.0 ++ behind) ×
    HasTurns D e.0 e.1 n behind × MakeTurns D es behind

-- where a port has made a step in each of its turns so far, it has begun no call since its last step
abbrev pub StopAtSteps : List (ℕ × ℕ) → Run → Type 0
StopAtSteps steps run = (q : ℕ) → events_in q (ports_of run.memory.trace) ≡ turns_by q steps → StopsAtStep run.ports.items q

-- the replay has made these turns
abbrev pub HasMadeTurns : List (List Call) → List (ℕ × Option ℕ) → Run → Type 0
HasMadeTurns plans turns run = MakeTurns (IsPortDone plans run.ports.items) turns (ports_of run.memory.trace)

-- how long the history was at each of port q's turns so far, where the replay has made these
abbrev pub lengths_so_far : ℕ → List (ℕ × Option ℕ) → Run → List ℕ
lengths_so_far q turns run =
    lengths_in q turns (λ r. events_in r (ports_of run.memory.trace)) 0 (moments_from run.memory.sizes.m 0 run.memory.trace)

-- each port has begun its calls in its turns
abbrev pub HaveBegun : List (List Call) → List (ℕ × Option ℕ) → Run → Type 0
HaveBegun plans turns run = (q : ℕ) → BeganInTurns 0 plans q (lengths_so_far q turns run) run.ports.items

-- a replay of the plan's calls, of its sizes and values, has made these turns, and is between two of them
pub record HasReplayed (plan : PlanView) (plans : List (List Call)) (turns : List (ℕ × Option ℕ)) (run : Run) : Type 0 where
  pub between : IsBetweenTurns plans run
  pub sizes : run.memory.sizes ≡ plan.sizes
  pub values : run.opening.values ≡ plan.initial
  pub made : HasMadeTurns plans turns run
  pub begun : HaveBegun plans turns run
