-- What a port of a replay has made of its calls, and what one step makes of it.
use Rattle.std.specs.Prelude.{ℕ, ◌≡◌, ◌+◌, ◌<◌, ◌≤◌, ◌==◌, ◌^◌, ⊤, false, List, [], ◌∷◌, ◌++◌, length, map, take, nat_lt, slice_get, Option, Some, None, IfSome, IsSomeAnd, MatchOption, if◌then◌else◌}
use Rattle.std.specs.List.{AllByRecursion, filter_map}
use Rattle.std.specs.Option.{option_map_or}
use Rattle.partial_model.specs.declared.history.Applied.{Applied}
use Rattle.partial_model.specs.declared.history.Opening.{Opening}
use Rattle.partial_model.specs.declared.call.Call.{Call}
use Rattle.partial_model.specs.declared.call.Answer.{Answer}
use Rattle.partial_model.specs.declared.call.Note.{Note}
use Rattle.partial_model.specs.declared.call.Called.{Called}
use Rattle.partial_model.specs.Notes.{Noted, LegalNotes, seen_by, shown_by, place_of}
use Rattle.partial_model.specs.Outcome.{noted_of, places_written}
use Rattle.partial_words.specs.declared.step.Step.{Step}
use Rattle.partial_words.specs.declared.step.Step.TheVariants.{Exchange}
use Rattle.partial_words.specs.declared.step.Event.{Event}
use Rattle.partial_words.specs.Layout.{Layout}
use Rattle.partial_words.specs.Step.{word_of, answer_of, words_after}
use Rattle.partial_words.specs.Record.{record_value, value_word}
use Rattle.partial_machine.specs.declared.stage.Reply.{Reply}
use Rattle.partial_machine.specs.declared.stage.Stage.TheVariants.{Idle}
use Rattle.partial_machine.specs.Machine.{CoreState, at_stage, advance, fresh, step_of, reply_of}
use Rattle.partial_machine.specs.Possible.{IsPossible}
use Rattle.partial_machine.specs.Bounds.{steps_left, most_steps}
use Rattle.partial_core.specs.Part.{Part, port_of, IsMachineOf, IsBetween, first_at}
use Rattle.partial_machine.specs.Calls.{is_begun, is_at_rest, call_of, answer_for, begun_of, refusal_of}
use Rattle.partial_core.specs.Steps.{begun_with}
use Rattle.partial_replay.specs.ScanPlace.{HasRecord, HasRecords}
use Rattle.partial_replay.specs.Trace.{Moment}
use Rattle.partial_replay.specs.CallSteps.{Makes, IsCallRun, AreStepsOf}
use Rattle.partial_replay.specs.Turns.{BeginInTurns}
use Rattle.partial_replay.specs.Listed.{steps_in, AreFew}
use Rattle.partial_replay.specs.Place.{IsNoteFrom, HasLeastPlace}
use Rattle.partial_replay.specs.declared.memory.Memory.{Memory}
use Rattle.partial_replay.specs.declared.port.Port.{Port}
use Rattle.partial_replay.specs.declared.port.UnderWay.{UnderWay}

-- the length of the history at the end of a call, or low where it isn't finished
abbrev pub end_of_call : ℕ → Called → ℕ
end_of_call low c = option_map_or (λ f. f.ended) c.finish low

-- the length of the history at the end of the last of the calls, or low where there is none
abbrev pub ends_of : ℕ → List Called → ℕ
ends_of low [] = low
ends_of low (c ∷ cs) = ends_of (end_of_call low c) cs

-- a call that is finished, and has its place between its begin and its end
pub record IsFinishedCall (n low : ℕ) (c : Called) : Type 0 where
  pub behind : low ≤ c.began
  pub ended : IsSomeAnd c.finish (λ f. (c.began ≤ f.ended) × (f.ended ≤ n) ×
      IfSome f.note (λ note. (c.began ≤ place_of note) × (shown_by note ≤ f.ended)))

-- the finished calls of port p from number k on, one after the other, in a history of n entries
abbrev pub AreFinished : ℕ → ℕ → ℕ → ℕ → List Called → Type 0
AreFinished n p k low [] = ⊤
AreFinished n p k low (c ∷ cs) = (c.port ≡ p) × (c.number ≡ k) × IsFinishedCall n low c × AreFinished n p (k + 1) (end_of_call low c) cs

-- what is noted of the finished calls
abbrev pub notes_in : List Called → List Noted
notes_in calls = filter_map noted_of calls

-- the call under way is the plan's next one, began after the finished ones, and is what the machine has begun
pub record IsCallUnderWay (n : ℕ) (calls : List Call) (x : Part) (core : CoreState) (done : List Called) (way : UnderWay) : Type 0 where
  pub call : Call
  pub next : slice_get calls (length done) ≡ Some call
  pub begun : call_of (begun_with core x) ≡ Some call
  pub behind : ends_of 0 done ≤ way.began
  pub within : way.began ≤ n
  pub first : is_begun core.stage ≡ false → way.began ≤ first_at x.kept
  pub machine : IsMachineOf core x
  pub due : is_at_rest core.stage ≡ false
  pub steps : way.steps + steps_left core ≤ most_steps core.sizes call

-- a port of a replay and its part of the lawful state
pub record PortFits (o : Opening) (log : List Applied) (calls : List Call) (p : ℕ) (x : Part) (port : Port) : Type 0 where
  pub number : port.number ≡ p
  pub part : port_of x ≡ p
  pub sizes : port.core.sizes.m ≡ length o.values
  pub finished : AreFinished (length log) p 0 0 port.finished.items
  pub legal : LegalNotes o log p 0 (notes_in port.finished.items)
  pub shown : seen_by 0 (notes_in port.finished.items) ≤ ends_of 0 port.finished.items
  pub written : places_written (notes_in port.finished.items) ≡ places_written x.notes
  -- the finished calls are the first of the plan's
  pub made : map (λ c. c.call) port.finished.items ≡ take (length port.finished.items) calls
  pub few : length port.finished.items ≤ length calls
  -- they have made no more steps than they may
  pub bounded : AreFew port.core.sizes port.finished.items
  -- what they saw is the least prefix that shows it
  pub least : AllByRecursion (HasLeastPlace o log) port.finished.items
  pub way : MatchOption port.under_way (IsBetween x port.core) (IsCallUnderWay (length log) calls x port.core port.finished.items)

-- the entry of a won exchange of one of the m component words, whose record stands in the words
abbrev pub entry_at : ℕ → List ℕ → ℕ → Step → ℕ → List Applied
entry_at m words port (Exchange j old at) a = if nat_lt j m then
    (if a == old then record { port = port; component = j; value = record_value words at; stamp = at } ∷ [] else []) else []
entry_at m words port _ a = []

-- the call under way with one step more
abbrev pub one_step_more : UnderWay → UnderWay
one_step_more way = record { began = way.began; steps = way.steps + 1 }

-- a call that has ended with that answer and that note
abbrev pub ended_call : ℕ → ℕ → Call → UnderWay → ℕ → Answer → Option Note → Called
ended_call port number call way ended a note = record {
  port = port;
  number = number;
  call = call;
  began = way.began;
  steps = way.steps;
  finish = Some (record { ended = ended; answer = a; note = note });
}

-- what the machine after a step makes of its port when the call goes on
pub record CallGoesOn (port new : Port) (way : UnderWay) (core : CoreState) : Type 0 where
  pub machine : new.core ≡ core
  pub finished : new.finished.items ≡ port.finished.items
  pub way' : new.under_way ≡ Some (one_step_more way)

-- and when the call has ended with that reply: it is listed as finished, and the machine is idle
pub record Ends (calls : List Call) (words : List ℕ) (log : List Applied) (port new : Port) (way : UnderWay) (core : CoreState)
    (r : Reply) : Type 0 where
  pub machine : new.core ≡ at_stage core Idle
  pub none : new.under_way ≡ None
  pub call : Call
  pub next : slice_get calls (length port.finished.items) ≡ Some call
  pub note : Option Note
  pub noted : IsNoteFrom words log way.began call (answer_for core r) note
  pub finished : new.finished.items ≡ port.finished.items ++ ended_call port.number (length port.finished.items) call (one_step_more way)
      (length log) (answer_for core r) note ∷ []

-- the event of a step of port p
abbrev pub event_of : Memory → ℕ → Step → Event
event_of memory p step = record { port = p; step = step; answer = answer_of memory.words step }

-- the machine after a step
abbrev pub core_behind : Memory → Step → Port → CoreState
core_behind memory step port = advance port.core (answer_of memory.words step)

-- a step of a port: what became of the memory and the port
pub record StepMade (calls : List Call) (old now : Memory) (port new : Port) : Type 0 where
  pub step : Step
  pub way : UnderWay
  pub due : step_of port.core ≡ Some step
  pub was : port.under_way ≡ Some way
  pub possible : IsPossible port.core (answer_of old.words step)
  pub words_are : now.words ≡ words_after old.words step
  pub trace_is : now.trace ≡ old.trace ++ event_of old port.number step ∷ []
  pub log_is : now.history.items ≡
      old.history.items ++ entry_at port.core.sizes.m now.words port.number step (answer_of old.words step)
  pub number : new.number ≡ port.number
  pub falls : steps_left (core_behind old step port) < steps_left port.core
  pub after : MatchOption (reply_of (core_behind old step port)) (CallGoesOn port new way (core_behind old step port))
      (Ends calls now.words now.history.items port new way (core_behind old step port))

-- a record to be exchanged lies in the words
abbrev pub IsExchangeWithin : ℕ → List ℕ → Step → Type 0
IsExchangeWithin m words (Exchange j old at) = j < m → value_word at < length words
IsExchangeWithin m words _ = ⊤

-- the call is a scan of components that are there, and each has a value
abbrev pub ScanHasValues : ℕ → Call → List ℕ → Type 0
ScanHasValues m (Call.Scan js) vs = AllByRecursion (λ j. j < m) js × (length vs ≡ length js)
ScanHasValues m _ vs = ⊥

-- an answer that the call may have: only a scan answers values
abbrev pub MayAnswer : ℕ → Call → Answer → Type 0
MayAnswer m c (Answer.Scanned vs collects borrowed) = ScanHasValues m c vs
MayAnswer m c _ = ⊤

-- the records of the components, and of the entries, lie within the words
pub record AreWithin (m : ℕ) (words : List ℕ) (log : List Applied) : Type 0 where
  pub components : HasRecords words m
  pub entries : (k : ℕ) (e : Applied) → slice_get log k ≡ Some e → HasRecord words m e

-- a step that may be made: its word is there, the answer is a possible one, and what is noted of a call
-- that ends can be found
pub record MayStep (calls : List Call) (memory : Memory) (port : Port) : Type 0 where
  pub step : Step
  pub way : UnderWay
  pub call : Call
  pub due : step_of port.core ≡ Some step
  pub was : port.under_way ≡ Some way
  pub within : word_of step < length memory.words
  pub possible : IsPossible port.core (answer_of memory.words step)
  pub exchange : IsExchangeWithin port.core.sizes.m memory.words step
  pub steps : way.steps + 1 < 2 ^ 64
  pub next : slice_get calls (length port.finished.items) ≡ Some call
  pub ends : IfSome (reply_of (core_behind memory step port))
      (λ r. MayAnswer port.core.sizes.m call (answer_for (core_behind memory step port) r))
  pub places : AreWithin port.core.sizes.m (words_after memory.words step) (memory.history.items ++
      entry_at port.core.sizes.m (words_after memory.words step) port.number step (answer_of memory.words step))

-- a call that was finished as it was begun
abbrev pub call_at_once : ℕ → ℕ → Call → ℕ → Answer → Option Note → Called
call_at_once port number call seen a note = record
    { port = port; number = number; call = call; began = seen; steps = 0; finish = Some (record { ended = seen; answer = a; note = note }) }

-- a call of port p that the machine s has finished as it was begun, and the machine after it
pub record IsDoneAtOnce (p number : ℕ) (call : Call) (seen : ℕ) (s t : CoreState) (c : Called) : Type 0 where
  pub port : c.port ≡ p
  pub number' : c.number ≡ number
  pub call' : c.call ≡ call
  pub began : c.began ≡ seen
  pub steps : c.steps ≡ 0
  pub done : IsCallRun s c [] t

-- a call that is left unfinished
abbrev pub unfinished_call : ℕ → ℕ → Call → UnderWay → Called
unfinished_call port number call way = record {
  port = port;
  number = number;
  call = call;
  began = way.began;
  steps = way.steps;
  finish = None;
}

-- a call that has ended, with its note
abbrev pub IsEndedCall : ℕ → ℕ → Call → UnderWay → List ℕ → List Applied → Answer → Called → Type 0
IsEndedCall port number call way words log a c = (note : Option Note) × IsNoteFrom words log way.began call a note ×
    (c ≡ ended_call port number call way (length log) a note)

-- a port goes on as its part's port, in whatever lawful state, while the history has so many entries
abbrev pub KeepsFit : List Call → ℕ → Port → Port → Type 0
KeepsFit calls seen old new = (o : Opening) (log : List Applied) (p : ℕ) (x : Part) → length log ≡ seen → PortFits o log calls p x old →
    PortFits o log calls p x new

-- how long the history was before the first of the events, or is with n entries where there is none
abbrev pub began_at : ℕ → List Moment → ℕ
began_at n [] = n
began_at n (x ∷ xs) = x.before

-- the call under way has made these events since the machine was at s between calls; the history has n entries
pub record IsCallGoing (n : ℕ) (calls : List Call) (done : List Called) (s core : CoreState) (own : List Moment) (way : UnderWay) :
    Type 0 where
  pub call : Call
  pub next : slice_get calls (length done) ≡ Some call
  pub begins : refusal_of s call ≡ None
  pub makes : Makes (begun_of s call) own core
  pub steps : length own ≡ way.steps
  pub began : way.began ≡ began_at n own

-- the port's events are the steps of its calls, and then of the one under way
pub record PortMade (z : Layout) (n : ℕ) (calls : List Call) (p : ℕ) (xs : List Moment) (port : Port) : Type 0 where
  pub done : List Moment
  pub own : List Moment
  pub at : CoreState
  pub is : xs ≡ done ++ own
  pub led : AreStepsOf (fresh z p) port.finished.items done at
  pub going : MatchOption port.under_way ((own ≡ []) × (port.core ≡ at)) (IsCallGoing n calls port.finished.items at port.core own)

-- the port's events are still the steps of its calls
abbrev pub KeepsMade : List Call → ℕ → Port → Port → Type 0
KeepsMade calls seen old new = (z : Layout) (p : ℕ) (xs : List Moment) → PortMade z seen calls p xs old → PortMade z seen calls p xs new

-- how many steps the call under way has made, if there is one
abbrev pub steps_under_way : Option UnderWay → ℕ
steps_under_way way = option_map_or (λ v. v.steps) way 0

-- The port has had turns in which the history was so long, and has begun its calls in them. As long as calls are left
-- it has made a step in each turn, but for so many of the last.
pub record HasTurned (idle : ℕ) (calls : List Call) (lengths : List ℕ) (port : Port) : Type 0 where
  pub finished : BeginInTurns lengths 0 port.finished.items
  pub turns : length port.finished.items < length calls →
      length lengths ≡ steps_in port.finished.items + steps_under_way port.under_way + idle
  pub way : IfSome port.under_way (λ v. slice_get lengths (steps_in port.finished.items) ≡ Some v.began)

-- in a turn in which the history is so long the port begins its next calls
abbrev pub BeginsInTurn : List Call → ℕ → Port → Port → Type 0
BeginsInTurn calls seen old new = (lengths : List ℕ) → HasTurned 0 calls lengths old → HasTurned 1 calls (lengths ++ seen ∷ []) new
