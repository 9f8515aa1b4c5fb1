-- Parts of an update.
use Rattle.std.specs.Prelude.{ℕ, ◌≡◌, ◌+◌, ◌<◌, ◌≤◌, ◌++◌, Bool, false, [], ◌∷◌, length, take, Option, None, Some, IfSome, Result, Ok, Err}
use Rattle.partial_model.specs.declared.call.Call.{Call}
use Rattle.partial_model.specs.declared.call.Answer.{Answer}
use Rattle.partial_model.specs.declared.call.Note.{Note}
use Rattle.partial_model.specs.History.{stamp_of}
use Rattle.partial_model.specs.Notes.{Noted}
use Rattle.partial_words.specs.declared.step.Step.TheVariants.{Exchange}
use Rattle.partial_machine.specs.declared.stage.Change.{Change}
use Rattle.partial_lines.specs.declared.exchange.Exchanged.{Exchanged}
use Rattle.partial_lines.specs.declared.exchange.Exchanged.TheVariants.{Applied, Overtaken}
use Rattle.partial_machine.specs.declared.stage.Stage.TheVariants.{Idle}
use Rattle.partial_machine.specs.Machine.{CoreState}
use Rattle.partial_machine.specs.Sound.{IsSound}
use Rattle.partial_epochs.specs.History.{public_stamp, stamp_limit}
use Rattle.partial_epochs.specs.Notes.{public_of}
use Rattle.partial_long_lived.specs.declared.answers.Updated as answers
use Rattle.partial_long_lived.specs.declared.answers.Updated.{Updated}
use Rattle.partial_long_lived.specs.declared.ended.Ended.{Ended}
use Rattle.partial_long_lived.specs.declared.error.Refused.{Refused}
use Rattle.partial_long_lived.specs.declared.error.Refused.TheVariants.{Overtaken as IsOvertaken}
use Rattle.partial_long_lived.specs.declared.stand.Stand.{Stand}
use Rattle.partial_long_lived.specs.declared.attempt.Attempted.{Attempted}
use Rattle.partial_long_lived.specs.Rule.{SeatedPort, plan_of}
use Rattle.partial_long_lived.specs.Ports.{seen_in}
use Rattle.partial_long_lived.specs.Inner.Moves.{BeganBy}
use Rattle.partial_long_lived.specs.Inner.Calls.{IsIdle, StaysAt}
use Rattle.partial_long_lived.specs.Inner.Changing.{IsCause}
use Rattle.partial_long_lived.specs.Inner.Held.{epoch_at, port_at}
use Rattle.partial_long_lived.specs.Inner.Steps.{SeatGoes}
use Rattle.partial_long_lived.specs.Inner.Loads.{opening_of}
use Rattle.partial_long_lived.specs.Inner.Machine.{Exchanges}
use Rattle.partial_long_lived.specs.Inner.Scans.{RestsUnmarked}
use Rattle.partial_long_lived.specs.Inner.Under.{machine_at}

-- the exchange of the component has found this word
abbrev pub ExchangeDue : Stand → Change → ℕ → ℕ → ℕ → Stand → Type 0
ExchangeDue s c old at found t = Exchanges (machine_at s) old (Exchange c.component old at) (port_at s) found (port_at t)

-- the change that an update asks for
abbrev pub asked_change : ℕ → Option ℕ → ℕ → Change
asked_change component expected value = record { component = component; expected = expected; value = value }

-- how an attempt ended the update, unless it met a seal
abbrev pub exchanged_in : Attempted → Option Exchanged
exchanged_in (Attempted.Applied stamp) = Some (Applied stamp)
exchanged_in (Attempted.Overtaken by) = Some (Overtaken by)
exchanged_in Attempted.Sealed = None

-- how an update ended, or why it was refused
abbrev pub ended_as : Ended → Result Exchanged Refused
ended_as (Ended.Applied stamp) = Ok (Applied stamp)
ended_as (Ended.Overtaken by) = Ok (Overtaken by)
ended_as Ended.NoComponent = Err Refused.Component
ended_as Ended.TooLate = Err Refused.Overtaken
ended_as Ended.EpochsSpent = Err Refused.EpochsSpent

-- what a port notes of an update in that epoch that ended so, with an entry at that place
abbrev pub noted_change : ℕ → Change → Exchanged → ℕ → Noted
noted_change epoch c (Applied stamp) place =
    record { call = Call.Update c.component c.value; answer = Answer.Applied (public_stamp epoch stamp); note = Some (Note.Wrote place) }
noted_change epoch c (Overtaken by) place =
    record { call = Call.Update c.component c.value; answer = Answer.Lost (public_stamp epoch by); note = Some (Note.Lost place) }

-- the public stamp of the record that an update put, or that overwrote it
abbrev pub stamp_from : ℕ → Exchanged → ℕ
stamp_from epoch (Applied stamp) = public_stamp epoch stamp
stamp_from epoch (Overtaken by) = public_stamp epoch by

-- how such an update ended, as its caller is answered
abbrev pub public_update : ℕ → Exchanged → answers.Updated
public_update epoch (Applied stamp) = Updated.Applied (public_stamp epoch stamp)
public_update epoch (Overtaken by) = Updated.Lost (public_stamp epoch by)

-- what a port notes where its update has ended so in its epoch, at that place: a conditional update expected the record at that word
abbrev pub noted_where : SeatedPort → Option ℕ → Change → Exchanged → ℕ → Noted
noted_where x None c r place = noted_change (length x.port.before) c r place
noted_where x (Some at) c (Applied stamp) place = record {
  call = Call.UpdateIf c.component (public_of (plan_of x.about) x.port.before c.component at) c.value;
  answer = Answer.Applied (public_stamp (length x.port.before) stamp);
  note = Some (Note.Wrote place);
}
noted_where x (Some at) c (Overtaken by) place = record {
  call = Call.UpdateIf c.component (public_of (plan_of x.about) x.port.before c.component at) c.value;
  answer = Answer.Changed (public_of (plan_of x.about) x.port.before c.component by);
  note = Some (Note.Saw place);
}

-- Where an update has its place among n entries that the port has seen: an applied one is the last of them, a lost one names one of them, and
-- a conditional one that found another record sees some of them.
abbrev pub IsEntryOf : Option ℕ → Exchanged → ℕ → ℕ → Type 0
IsEntryOf expected (Applied stamp) place n = place + 1 ≡ n
IsEntryOf None (Overtaken by) place n = place < n
IsEntryOf (Some at) (Overtaken by) place n = place ≤ n

-- the word of the arena where the record lies that an update put, or that it found
abbrev pub word_from : Exchanged → ℕ
word_from (Applied stamp) = stamp
word_from (Overtaken by) = by

-- a conditional update expects a record that its component has had in the epoch, as far as the port has seen
abbrev pub ExpectsOne : SeatedPort → Change → Type 0
ExpectsOne x c = IfSome c.expected (λ at.
    (n : ℕ) × (n ≤ length x.port.part.seen) × (at ≡ stamp_of (opening_of x) (take n x.port.part.seen) c.component))

-- The port stands where it stood, in a call that began as before or with its first step here, and owns no arena.
pub record PortStayed (first : Bool) (s t : Stand) : Type 0 where
  pub kept : StaysAt s t
  pub idle : IsIdle t
  pub began : BeganBy first (port_at s) (port_at t).began

-- Nothing has come of the attempt, as where the component is sealed: the port has noted nothing.
pub record NotesNothing (first : Bool) (s t : Stand) : Type 0 where
  pub stayed : PortStayed first s t
  pub notes : (port_at t).notes ≡ (port_at s).notes

-- The update has ended in the port's epoch: the port has noted this answer, with an entry that is not before the call began.
pub record UpdateAttempted (first : Bool) (c : Change) (r : Exchanged) (s t : Stand) : Type 0 where
  pub stayed : PortStayed first s t
  pub place : ℕ
  pub notes : (port_at t).notes ≡ (port_at s).notes ++ noted_where (port_at t) c.expected c r place ∷ []
  pub behind : (port_at t).began.length ≤ place
  pub within : IsEntryOf c.expected r place (length (seen_in (port_at t).port))
  pub before : (port_at t).port.before ≡ (port_at s).port.before
  pub small : word_from r < stamp_limit

-- the machine is idle, sound, and of the port
pub record IsOwnMachine (x : SeatedPort) (core : CoreState) : Type 0 where
  pub idle : core.stage ≡ Idle
  pub sound : IsSound core
  pub sizes : core.sizes ≡ x.about.sizes
  pub port : core.port ≡ x.number

-- it may begin a call in the port's epoch, where the port has made no claim past the limit
pub record MayCall (x : SeatedPort) (core : CoreState) : Type 0 where
  pub rests : RestsUnmarked x core
  pub over : x.port.over ≡ false

-- Why an update is refused after some steps: its port has entered so many later epochs and has met so many seals, or the epoch can't be
-- changed.
abbrev pub IsLate : ℕ → ℕ → Stand → Refused → Stand → Type 0
IsLate times seals s IsOvertaken t = (epoch_at s + times ≤ epoch_at t) × ((port_at s).contention.seals + seals ≤ (port_at t).contention.seals)
IsLate times seals s cause t = IsCause t cause

-- the port has met a seal once more
abbrev pub FoundSealed : Stand → Stand → Type 0
FoundSealed s t = (port_at s).contention.seals + 1 ≤ (port_at t).contention.seals

-- A part of a call has led the port from the one stand to the other, and the port has noted nothing.
pub record CameBy (first : Bool) (s t : Stand) : Type 0 where
  pub shape : t.shape ≡ s.shape
  pub number : t.number ≡ s.number
  pub goes : SeatGoes (port_at s) (port_at t)
  pub notes : (port_at t).notes ≡ (port_at s).notes
  pub began : BeganBy first (port_at s) (port_at t).began

-- The update has ended: the port has noted this answer, with an entry that is not before the call began.
pub record UpdateEnded (first : Bool) (c : Change) (r : Exchanged) (s t : Stand) : Type 0 where
  pub shape : t.shape ≡ s.shape
  pub number : t.number ≡ s.number
  pub goes : SeatGoes (port_at s) (port_at t)
  pub began : BeganBy first (port_at s) (port_at t).began
  pub place : ℕ
  pub notes : (port_at t).notes ≡ (port_at s).notes ++ noted_change t.epoch c r place ∷ []
  pub behind : (port_at t).began.length ≤ place
  pub within : IsEntryOf None r place (length (seen_in (port_at t).port))
