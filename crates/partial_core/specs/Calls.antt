-- A whole call of a port as one relation: how it begins, each of its steps, and what it leaves.
use Rattle.std.specs.Prelude.{ℕ, ◌≡◌, ◌+◌, ◌<◌, ◌≤◌, true, not, List, [], ◌∷◌, ◌++◌, length, take, Option, Some, None, is_some}
use Rattle.partial_model.specs.declared.call.Call.{Call}
use Rattle.partial_model.specs.declared.call.Refused.{Refused}
use Rattle.partial_model.specs.declared.history.Applied.{Applied}
use Rattle.partial_model.specs.declared.history.Opening.{Opening}
use Rattle.partial_model.specs.Notes.{Noted}
use Rattle.partial_words.specs.Layout.{Layout, IsLayout}
use Rattle.partial_machine.specs.declared.stage.Reply.{Reply}
use Rattle.partial_machine.specs.declared.stage.Stage.TheVariants.{Idle, ReadBegun, ScanBegun}
use Rattle.partial_machine.specs.Machine.{CoreState, at_stage, advance, fresh, step_of, reply_of}
use Rattle.partial_machine.specs.Calls.{is_at_rest, makes_steps, call_of, refusal_of, begun_of, begin_scan, IsServed}
use Rattle.partial_machine.specs.Sound.{IsSound}
use Rattle.partial_machine.specs.Bounds.{most_steps, steps_left}
use Rattle.partial_machine.specs.Behind.{IsRefusedBy, IsMarkedFor}
use Rattle.partial_machine.specs.Steps.{Run, AreOfScan, pairs_loaded}
use Rattle.partial_core.specs.Part.{Part, port_of, answers_of, first_at, HasBegun, IsLedTo, IsBetween, fresh_part}
use Rattle.partial_core.specs.Steps.{AreNotesOf, FitsHistory, StepShows}

-- why a call was refused after some steps: the last of them was its claim, which went past the end of its region
pub record IsRefusedLast (b : CoreState) (answers : List ℕ) (c : CoreState) (cause : Refused) : Type 0 where
  pub front : List ℕ
  pub last : ℕ
  pub is : answers ≡ front ++ last ∷ []
  pub claims : CoreState
  pub led : Run b front claims
  pub ends : c ≡ advance claims last
  pub past : IsRefusedBy claims last cause
  -- the port is marked from then on, and wasn't before
  pub unmarked : ¬ IsMarkedFor claims cause
  pub marked : IsMarkedFor c cause

-- The call that the machine b began at the port with the part x has made some steps. They have led to the machine c and
-- the part y.
pub record Made (z : Layout) (o : Opening) (b : CoreState) (x : Part) (c : CoreState) (y : Part) : Type 0 where
  pub sizes : c.sizes ≡ z
  pub number : c.port ≡ port_of y
  pub port : port_of y ≡ port_of x
  pub machine : IsLedTo c y
  pub sound : IsSound c
  -- the answers that were kept lead the machine from the one to the other
  pub begun : y.begun ≡ b
  pub begun_sizes : b.sizes ≡ z
  pub begun_sound : IsSound b
  pub some : 0 < length y.kept
  pub run : Run b (answers_of y.kept) c
  -- all that had been seen before lies before the first of them, and more is seen now
  pub first : length x.seen ≤ first_at y.kept
  pub seen : x.seen ≡ take (length x.seen) y.seen
  -- what is noted: nothing while the call goes on
  pub new : List Noted
  pub notes : y.notes ≡ x.notes ++ new
  pub noted : AreNotesOf o y (reply_of c) new
  pub fits : FitsHistory o y.seen y
  -- the machine rests exactly with a reply, and else a step is due
  pub rests : is_at_rest c.stage ≡ is_some (reply_of c)
  pub due : is_some (step_of c) ≡ not (is_some (reply_of c))
  pub refused_by : (cause : Refused) → reply_of c ≡ Some (Reply.Refused cause) → IsRefusedLast b (answers_of y.kept) c cause

-- the first step of a call
abbrev pub FirstStepsMakeCalls : Type 0
FirstStepsMakeCalls = (z : Layout) (o : Opening) (log entries : List Applied) (b : CoreState) (x : Part) (a : ℕ) (y : Part) →
    HasBegun b x → IsSound b → StepShows z o log entries x b a y → Made z o b x (advance b a) y

-- each further step
abbrev pub FurtherStepsMakeCalls : Type 0
FurtherStepsMakeCalls = (z : Layout) (o : Opening) (log entries : List Applied) (b : CoreState) (x : Part) (c : CoreState)
    (y : Part) (a : ℕ) (v : Part) →
    Made z o b x c y → StepShows z o log entries y c a v → Made z o b x (advance c a) v

-- how many steps a call has made, by its kept answers
pub record MakesItsSteps (z : Layout) (b c : CoreState) (y : Part) : Type 0 where
  pub few : (call : Call) → call_of b ≡ Some call → length y.kept + steps_left c ≤ most_steps z call
  pub read : (j : ℕ) (r : Reply) → b.stage ≡ ReadBegun j → reply_of c ≡ Some r → length y.kept ≡ 2
  pub scan : (n : ℕ) (borrowed : Option ℕ) → b.stage ≡ ScanBegun → reply_of c ≡ Some (Reply.Scanned n borrowed) →
      AreOfScan (length b.asked) n (pairs_loaded b (answers_of y.kept)) (length y.kept) borrowed

-- a call makes no more steps than it may, and a scan those of its positions and collects
abbrev pub MadeCallsMakeTheirSteps : Type 0
MadeCallsMakeTheirSteps = (z : Layout) (o : Opening) (b : CoreState) (x : Part) (c : CoreState) (y : Part) →
    IsLayout z → Made z o b x c y → MakesItsSteps z b c y

-- how calls begin and end at a port between calls
pub record BeginsBetween (x : Part) (core : CoreState) : Type 0 where
  -- a call that isn't refused at once and makes steps is the port's next
  pub begins : (c : Call) → IsServed core.sizes.m c → refusal_of core c ≡ None → makes_steps c ≡ true → HasBegun (begun_of core c) x
  -- a scan of no position leaves the port between calls
  pub at_once : IsBetween x (at_stage (begin_scan core []) Idle)

-- a call may begin between calls
abbrev pub CallsBeginBetween : Type 0
CallsBeginBetween = (x : Part) (core : CoreState) → IsBetween x core → BeginsBetween x core

-- a port is between calls when it is made, and when a call has ended and its reply was taken
abbrev pub PortsComeBetween : Type 0
PortsComeBetween =
    ((z : Layout) (port : ℕ) → IsLayout z → IsBetween (fresh_part z port) (fresh z port))
    × ((z : Layout) (o : Opening) (b : CoreState) (x : Part) (c : CoreState) (y : Part) → Made z o b x c y → is_some (reply_of c) ≡ true →
    IsBetween y (at_stage c Idle))
