-- How a call of a port's machine begins, and what a scan leaves of its port.
use Rattle.std.specs.Prelude.{ℕ, ◌≡◌, ◌<◌, ◌≤◌, ◌++◌, true, false, List, [], ◌∷◌, length, Option, Some}
use Rattle.std.specs.Option.{option_map}
use Rattle.partial_model.specs.declared.call.Call.{Call}
use Rattle.partial_model.specs.declared.call.Answer.{Answer}
use Rattle.partial_model.specs.declared.call.Note.{Note}
use Rattle.partial_model.specs.Notes.{Noted}
use Rattle.partial_words.specs.declared.step.Step.TheVariants.{Add}
use Rattle.partial_words.specs.Layout.{pool_counter}
use Rattle.partial_words.specs.Announcement.{announcement_size}
use Rattle.partial_machine.specs.Machine.{CoreState, advance}
use Rattle.partial_machine.specs.Possible.{IsPossible}
use Rattle.partial_core.specs.Part.{IsBetween}
use Rattle.partial_epochs.specs.History.{public_stamp}
use Rattle.partial_long_lived.specs.declared.stand.Stand.{Stand}
use Rattle.partial_long_lived.specs.Rule.{SeatedPort, plan_of}
use Rattle.partial_long_lived.specs.Ports.{seen_in}
use Rattle.partial_long_lived.specs.Inner.Steps.{SeatGoes}
use Rattle.partial_long_lived.specs.Inner.Held.{port_at}
use Rattle.partial_long_lived.specs.Inner.Calls.{EpochSettled, IsIdle, StaysAt}
use Rattle.partial_long_lived.specs.Inner.Machine.{over_by}
use Rattle.partial_long_lived.specs.Inner.Under.{CallMade, claimed_end, machine_at}

-- Between calls the port's machine is at rest, and is not spent, neither for the pool nor for the slots. Where the port isn't
-- over, the words that it has claimed for its records end no later than the limit.
pub record RestsUnmarked (x : SeatedPort) (core : CoreState) : Type 0 where
  pub between : IsBetween x.port.part core
  pub sizes : core.sizes ≡ x.about.sizes
  pub port : core.port ≡ x.number
  pub pool : core.pool_spent ≡ false
  pub slots : core.slots_spent ≡ false
  pub kept : x.port.over ≡ false → claimed_end core ≤ x.about.limit

-- By the first steps of a call the port has entered an epoch that opened during the call. It has noted nothing, and has seen nothing there.
pub record EnteredYoung (s t : Stand) : Type 0 where
  pub settled : EpochSettled true s t
  pub young : (port_at t).began.epoch < t.epoch
  pub none : (port_at t).port.part.seen ≡ []

-- The machine b has begun a scan of n positions where the port stands. The claim of its announcement was answered by a.
pub record ScanBegun (b : CoreState) (n : ℕ) (s : Stand) (a : ℕ) (t : Stand) : Type 0 where
  pub kept : StaysAt s t
  pub made : CallMade b (port_at s) (machine_at t) (port_at t)
  pub machine : machine_at t ≡ advance b a
  pub possible : IsPossible b a
  pub began : (port_at t).began ≡ (port_at s).began
  pub over : (port_at t).port.over
      ≡ over_by (plan_of (port_at s).about) (Add (pool_counter (port_at s).about.sizes) (announcement_size n)) a

-- what a port notes of a scan of these components in that epoch, answered so at that place
abbrev pub noted_scan : ℕ → List ℕ → List ℕ → ℕ → Option ℕ → ℕ → Noted
noted_scan epoch which values collects borrowed place = record {
  call = Call.Scan which;
  answer = Answer.Scanned values collects (option_map (public_stamp epoch) borrowed);
  note = Some (Note.Saw place);
}

-- The port has scanned where it stood: what it has noted is this answer, at a place that is not before its call began.
pub record ScanMade (s t : Stand) (which values : List ℕ) (collects : ℕ) (borrowed : Option ℕ) : Type 0 where
  pub shape : t.shape ≡ s.shape
  pub number : t.number ≡ s.number
  pub epoch : t.epoch ≡ s.epoch
  pub goes : SeatGoes (port_at s) (port_at t)
  pub idle : IsIdle t
  pub began : (port_at t).began ≡ (port_at s).began
  pub place : ℕ
  pub notes : (port_at t).notes ≡ (port_at s).notes ++ noted_scan t.epoch which values collects borrowed place ∷ []
  pub behind : (port_at t).began.length ≤ place
  pub within : place ≤ length (seen_in (port_at t).port)

-- The port has scanned, where it stood or in a later epoch: what it has noted is this answer, at a place that is not before its call began.
pub record HasNotedScan (s t : Stand) (which values : List ℕ) (collects : ℕ) (borrowed : Option ℕ) : Type 0 where
  pub shape : t.shape ≡ s.shape
  pub number : t.number ≡ s.number
  pub later : s.epoch ≤ t.epoch
  pub goes : SeatGoes (port_at s) (port_at t)
  pub idle : IsIdle t
  pub place : ℕ
  pub notes : (port_at t).notes ≡ (port_at s).notes ++ noted_scan t.epoch which values collects borrowed place ∷ []
  pub first : length (seen_in (port_at s).port) ≤ (port_at t).began.length
  pub behind : (port_at t).began.length ≤ place
  pub within : place ≤ length (seen_in (port_at t).port)
