-- A call of a port's machine under way, in the arena where the port stands.
use Rattle.std.specs.Prelude.{ℕ, ◌≡◌, ◌≢◌, ◌+◌, ◌≤◌, ◌==◌, ◌&&◌, ◌++◌, if◌then◌else◌, Bool, true, false, Option, nat_lt, length, map, Some, None}
use Rattle.std.proofs.Common.{refl, ◌∙◌, le_refl, le_trans}
use Rattle.partial_table.specs.Table.{TableId}
use Rattle.partial_model.specs.declared.call.Refused.{Refused}
use Rattle.partial_model.specs.Notes.{seen_by}
use Rattle.partial_words.specs.Layout.{IsLayout}
use Rattle.partial_words.specs.Record.{plain_record_size}
use Rattle.partial_machine.specs.declared.stage.Stage.{Stage}
use Rattle.partial_machine.specs.declared.stage.Stage.TheVariants.{UpdateBegun, GettingSet, Viewing, ClaimingRecord, StoringRecord, Exchanging, ScanBegun}
use Rattle.partial_machine.specs.declared.stage.Reply.{Reply}
use Rattle.partial_machine.specs.Bounds.{left_at}
use Rattle.partial_machine.specs.Machine.{CoreState, reply_of}
use Rattle.partial_machine.specs.Sound.{IsSound}
use Rattle.partial_core.specs.Part.{HasBegun, core_of, first_at}
use Rattle.partial_core.specs.Calls.{Made}
use Rattle.partial_epochs.specs.History.{history_of}
use Rattle.partial_epochs.specs.Notes.{public_noted}
use Rattle.partial_epochs.specs.Ports.Entering.{Stands}
use Rattle.partial_epochs.specs.Epochs.{awaits_at}
use Rattle.partial_epochs.specs.MachineSteps.{MayScan}
use Rattle.partial_long_lived.specs.declared.rule.About.{About}
use Rattle.partial_long_lived.specs.declared.stand.Stand.{Stand}
use Rattle.partial_long_lived.specs.Rule.{SeatedPort, plan_of}
use Rattle.partial_long_lived.specs.Inner.Steps.{SeatGoes}
use Rattle.partial_long_lived.specs.Inner.Held.{IsHeld, port_at}
use Rattle.partial_long_lived.specs.Inner.Loads.{opening_of}
use Rattle.partial_long_lived.specs.Inner.Machine.{ExpectsSeen}

-- whether a machine at this stage has yet to claim words of the pool
abbrev pub before_claim : Stage → Bool
before_claim (UpdateBegun c) = true
before_claim (GettingSet c old) = true
before_claim (Viewing c old) = true
before_claim (ClaimingRecord c old) = true
before_claim ScanBegun = true
before_claim _ = false

-- whether the machine has yet to claim a slot for its announcement
abbrev pub awaits : CoreState → Bool
awaits c = awaits_at c c.stage

-- neither of the two is so
abbrev pub neither : Bool → Bool → Bool
neither false false = true
neither _ _ = false

-- whether the machine has made all its claims, of pool words and of a slot
abbrev pub has_claimed : CoreState → Bool
has_claimed c = neither (before_claim c.stage) (awaits c)

-- whether a machine at this stage writes a record without a view, of which it has yet to store the view word
abbrev pub before_no_view : CoreState → Stage → Bool
before_no_view c (Viewing d old) = length c.found.indices == 0
before_no_view c (ClaimingRecord d old) = length c.found.indices == 0
before_no_view c (StoringRecord d old at k) = nat_lt k plain_record_size && (length c.found.indices == 0)
before_no_view c _ = false

-- how many steps a seat makes at most for those that its machine makes from a stage on: such a view word may be loaded before it is stored
abbrev pub seat_left_at : CoreState → Stage → ℕ
seat_left_at c t = left_at c t + (if before_no_view c t then 1 else 0)

-- how many it makes at most for the rest of the call
abbrev pub seat_steps_left : CoreState → ℕ
seat_steps_left c = seat_left_at c c.stage

-- where the record of an update lies that has words of the pool
abbrev pub record_claim : Stage → Option ℕ
record_claim (StoringRecord c old at k) = Some at
record_claim (Exchanging c old at) = Some at
record_claim _ = None

-- the word after those that the port has claimed for its records
abbrev pub claimed_end : CoreState → ℕ
claimed_end c = c.spare.at + c.spare.size

-- the machine b may begin a call at the port x, which has made no claim past the limit
pub record MayBegin (b : CoreState) (x : SeatedPort) : Type 0 where
  pub stands : x.port.control.entering ≡ Stands
  pub begun : HasBegun b x.port.part
  pub sound : IsSound b
  pub layout : IsLayout b.sizes
  pub sizes : b.sizes ≡ x.about.sizes
  pub spare : x.port.over ≡ false
  pub kept : claimed_end b ≤ x.about.limit
  pub scan : MayScan (plan_of x.about) b
  pub unmarked : (b.pool_spent ≡ false) × (b.slots_spent ≡ false)
  pub expects : ExpectsSeen x b

-- The call has made some steps, which have led to the machine c and the port y.
pub record CallMade (b : CoreState) (x : SeatedPort) (c : CoreState) (y : SeatedPort) : Type 0 where
  pub goes : SeatGoes x y
  pub control : y.port.control ≡ x.port.control
  pub before : y.port.before ≡ x.port.before
  pub passed : y.port.passed ≡ x.port.passed
  pub made : Made x.about.sizes (opening_of x) b x.port.part c y.port.part
  -- it has made no claim past the limit before its claim
  pub spare : before_claim c.stage ≡ true → y.port.over ≡ false
  -- once its record has words it is over exactly where those that it has claimed end past the limit
  pub claimed : (at : ℕ) → record_claim c.stage ≡ Some at → y.port.over ≡ nat_lt x.about.limit (claimed_end c)
  -- and where it isn't over, they end no later
  pub kept : y.port.over ≡ false → claimed_end c ≤ x.about.limit
  -- the machine isn't spent, neither for the pool nor for the slots
  pub unmarked : (c.pool_spent ≡ false) × (c.slots_spent ≡ false)
  -- it isn't refused
  pub unrefused : (cause : Refused) → reply_of c ≢ Some (Reply.Refused cause)
  -- the port notes over all epochs what it notes in the epoch
  pub notes : y.notes ≡ x.notes ++ map (public_noted (plan_of x.about) x.port.before) made.new
  -- its earlier notes show no more than it had seen as the call began
  pub shown : seen_by 0 x.notes ≤ length (history_of y.port.before) + y.port.part.since
  -- the call made its first step here when all of the history that it began with was there
  pub time : y.began.epoch ≤ y.port.control.here.epoch → y.began.length ≤ length (history_of y.port.before) + first_at y.port.part.kept

-- the call of the port is under way, or over
abbrev pub IsUnderWay : SeatedPort → Type 0
IsUnderWay y = (b : CoreState) × (x : SeatedPort) × MayBegin b x × CallMade b x (core_of y.port.part) y

-- the machine of the seat's port
abbrev pub machine_at : Stand → CoreState
machine_at s = core_of (port_at s).port.part

-- the seat is of one port of that memory, whose call is under way
pub record IsGoing (table : TableId) (about : About) (s : Stand) : Type 0 where
  pub held : IsHeld table about s
  pub under : IsUnderWay (port_at s)

-- from the one stand the call has reached the other by further steps
pub record ComesTo (s t : Stand) : Type 0 where
  pub shape : t.shape ≡ s.shape
  pub number : t.number ≡ s.number
  pub epoch : t.epoch ≡ s.epoch
  pub arena : t.arena ≡ s.arena
  pub base : t.base ≡ s.base
  pub passed : t.passed ≡ s.passed
  pub began : (port_at t).began ≡ (port_at s).began
  pub call : (b : CoreState) (x : SeatedPort) → MayBegin b x → CallMade b x (machine_at s) (port_at s) →
      CallMade b x (machine_at t) (port_at t)
  -- after its claims a call makes no other
  pub over : has_claimed (machine_at s) ≡ true → (has_claimed (machine_at t) ≡ true) × ((port_at t).port.over ≡ (port_at s).port.over)
  -- nor does a scan that has claimed its announcement before it claims a slot
  pub waits : before_claim (machine_at s).stage ≡ false → (before_claim (machine_at t).stage ≡ false)
      × (awaits (machine_at t) ≡ true → (awaits (machine_at s) ≡ true) × ((port_at t).port.over ≡ (port_at s).port.over))
  -- each step of it left its seat fewer steps to make
  pub steps : t.seat.steps + seat_steps_left (machine_at t) ≤ s.seat.steps + seat_steps_left (machine_at s)

-- by no step a call stays where it is
pub leads_itself : (s : Stand) → ComesTo s s
leads_itself s = record {
  shape = refl;
  number = refl;
  epoch = refl;
  arena = refl;
  base = refl;
  passed = refl;
  began = refl;
  call = λ b x begins had. had;
  over = λ claimed. (claimed, refl);
  waits = λ claimed. (claimed, λ waits. (waits, refl));
  steps = le_refl _;
}

-- steps follow on steps
pub leads_on : (s t u : Stand) → ComesTo s t → ComesTo t u → ComesTo s u
leads_on s t u f g = record {
  shape = g.shape ∙ f.shape;
  number = g.number ∙ f.number;
  epoch = g.epoch ∙ f.epoch;
  arena = g.arena ∙ f.arena;
  base = g.base ∙ f.base;
  passed = g.passed ∙ f.passed;
  began = g.began ∙ f.began;
  call = λ b x begins had. g.call b x begins (f.call b x begins had);
  over = λ claimed. let first = f.over claimed in let later = g.over first.0 in (later.0, later.1 ∙ first.1);
  waits = λ claimed.
      let first = f.waits claimed in
      let later = g.waits first.0 in
      (later.0, λ waits. let last = later.1 waits in let early = first.1 last.0 in (early.0, last.1 ∙ early.1));
  steps = le_trans g.steps f.steps;
}
