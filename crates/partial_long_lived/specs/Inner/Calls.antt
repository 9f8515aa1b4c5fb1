-- What parts of a call leave of a port.
use Rattle.std.specs.Prelude.{ℕ, ◌≡◌, ◌<◌, ◌≤◌, ◌==◌, ◌⊎◌, ◌++◌, Bool, true, false, IfSome, List, [], ◌∷◌, length, Some, None}
use Rattle.partial_model.specs.declared.history.Applied.{Applied}
use Rattle.partial_model.specs.declared.call.Call.{Call}
use Rattle.partial_model.specs.declared.call.Answer.{Answer}
use Rattle.partial_model.specs.declared.call.Note.{Note}
use Rattle.partial_model.specs.History.{stamp_of, value_of}
use Rattle.partial_words.specs.Layout.{total}
use Rattle.partial_words.specs.Record.{value_word}
use Rattle.partial_machine.specs.Machine.{fresh}
use Rattle.partial_core.specs.Part.{core_of}
use Rattle.partial_epochs.specs.Layout.{packed}
use Rattle.partial_epochs.specs.Ports.Entering.{Stands}
use Rattle.partial_epochs.specs.Entering.{arrived_port}
use Rattle.partial_long_lived.specs.declared.stand.Stand.{Stand}
use Rattle.partial_long_lived.specs.Rule.{plan_of}
use Rattle.partial_long_lived.specs.Inner.Steps.{SeatGoes}
use Rattle.partial_long_lived.specs.Ports.{seen_in}
use Rattle.partial_long_lived.specs.Inner.Moves.{BeganBy, SeatLooks}
use Rattle.partial_long_lived.specs.Inner.Loads.{opening_of}
use Rattle.partial_long_lived.specs.Inner.Held.{port_at}

-- the port stands where it stood
pub record StaysAt (s t : Stand) : Type 0 where
  pub shape : t.shape ≡ s.shape
  pub number : t.number ≡ s.number
  pub epoch : t.epoch ≡ s.epoch
  pub arena : t.arena ≡ s.arena
  pub base : t.base ≡ s.base
  pub passed : t.passed ≡ s.passed
  pub goes : SeatGoes (port_at s) (port_at t)

-- the port may look: it stands, and if it owns an arena it holds no entering word, or has ports left to find
pub record MayLook (s : Stand) : Type 0 where
  pub stands : (port_at s).port.control.entering ≡ Stands
  pub entering_words : IfSome (port_at s).port.control.owned (λ o. (o.entering_word ≡ None) ⊎ (o.clean < (port_at s).about.ports))

-- the look has found the port's own site the current one, or not
pub record LookFound (first : Bool) (s : Stand) (here : Bool) (t : Stand) : Type 0 where
  pub found : ℕ
  pub looks : SeatLooks first (port_at s) found (port_at t)
  pub is : here ≡ (found == packed (port_at s).port.control.here)

-- the port may enter: it stands, owns no arena, and has seen that its epoch has ended
pub record MayEnter (s : Stand) : Type 0 where
  pub stands : (port_at s).port.control.entering ≡ Stands
  pub past : (port_at s).port.control.past ≡ true
  pub free : (port_at s).port.control.owned ≡ None

-- The port has entered a later epoch, no older than the one that was the current one as its call began, with a new part there.
pub record EpochEntered (s t : Stand) : Type 0 where
  pub shape : t.shape ≡ s.shape
  pub number : t.number ≡ s.number
  pub goes : SeatGoes (port_at s) (port_at t)
  pub before : List (List Applied)
  pub is : port_at t ≡ record (port_at s) {
    port = arrived_port (plan_of (port_at s).about) (port_at s).number (record { epoch = t.epoch; arena = t.arena }) before;
    found = None;
  }
  pub later : (port_at s).port.control.here.epoch < t.epoch
  pub fresh : (port_at s).began.epoch ≤ t.epoch

-- the port stands between two calls: it owns no arena
pub record IsIdle (s : Stand) : Type 0 where
  pub stands : (port_at s).port.control.entering ≡ Stands
  pub free : (port_at s).port.control.owned ≡ None

-- The port stands where it stood, with the same machine; or it has entered a later epoch, with a new one.
pub record HasCome (s t : Stand) : Type 0 where
  pub shape : t.shape ≡ s.shape
  pub number : t.number ≡ s.number
  pub goes : SeatGoes (port_at s) (port_at t)
  pub idle : IsIdle t
  pub machine : ((t.epoch ≡ s.epoch) × (core_of (port_at t).port.part ≡ core_of (port_at s).port.part)
      × ((port_at t).port.over ≡ (port_at s).port.over))
      ⊎ ((s.epoch < t.epoch) × (core_of (port_at t).port.part ≡ fresh (port_at s).about.sizes (port_at s).number)
      × ((port_at t).port.over ≡ false))

-- The port has entered an epoch that was the current one during its call, perhaps by the first steps of the call, and has noted nothing.
pub record EpochSettled (first : Bool) (s t : Stand) : Type 0 where
  pub come : HasCome s t
  pub notes : (port_at t).notes ≡ (port_at s).notes
  pub began : BeganBy first (port_at s) (port_at t).began
  pub fresh : (port_at t).began.epoch ≤ t.epoch

-- The port has read: what it has noted is this answer, at the end of all that it has seen, which is not before its call began.
pub record HasNotedRead (s t : Stand) (j value stamp : ℕ) : Type 0 where
  pub come : HasCome s t
  pub notes : (port_at t).notes ≡ (port_at s).notes
      ++ record { call = Call.Read j; answer = Answer.Read value stamp; note = Some (Note.Saw (length (seen_in (port_at t).port))) } ∷ []
  pub first : length (seen_in (port_at s).port) ≤ (port_at t).began.length
  pub behind : (port_at t).began.length ≤ length (seen_in (port_at t).port)

-- the port has loaded the record of component j, after all that it has seen
pub record HasLoadedRecord (t : Stand) (j at : ℕ) : Type 0 where
  pub record_is : at ≡ stamp_of (opening_of (port_at t)) (port_at t).port.part.seen j
  pub within : value_word at < total (port_at t).about.sizes

-- the value of component j after all that the port has seen
abbrev pub HasValue : Stand → ℕ → ℕ → Type 0
HasValue t j value = value ≡ value_of (opening_of (port_at t)) (port_at t).port.part.seen j
