-- What a step of a port's machine shows the port, made in the arena where the port stands.
use Rattle.std.specs.Prelude.{⊤, ℕ, ◌≡◌, ◌≢◌, ◌+◌, ◌%◌, ◌^◌, ◌<◌, ◌≤◌, ◌==◌, ◌&&◌, ◌||◌, ◌⊎◌, ◌++◌, nat_lt, Bool, true, false, List, length, map, take, Some, if◌then◌else◌}
use Rattle.partial_table.specs.Table.{Me}
use Rattle.partial_model.specs.declared.history.Applied.{Applied}
use Rattle.partial_model.specs.declared.call.Call.{Call}
use Rattle.partial_model.specs.declared.call.Refused.{Refused}
use Rattle.partial_model.specs.History.{stamp_of}
use Rattle.partial_model.specs.Notes.{seen_by}
use Rattle.partial_words.specs.declared.step.Step.{Step}
use Rattle.partial_words.specs.declared.step.Step.TheVariants.{Load, Store, Exchange, Add}
use Rattle.partial_words.specs.Layout.{Layout, pool_counter, slot_counter}
use Rattle.partial_words.specs.Step.{word_of}
use Rattle.partial_machine.specs.declared.stage.Reply.{Reply}
use Rattle.partial_machine.specs.Machine.{CoreState, advance, reply_of, step_of}
use Rattle.partial_machine.specs.Calls.{call_of, is_begun}
use Rattle.partial_core.specs.Part.{IsMachineOf, core_of}
use Rattle.partial_core.specs.Steps.{StepShows, begun_with, since_with}
use Rattle.partial_epochs.specs.Layout.{IsSealed, Plan, plain, seal, slot_limit, unsealed}
use Rattle.partial_epochs.specs.History.{history_of}
use Rattle.partial_epochs.specs.Ports.Entering.{Stands}
use Rattle.partial_epochs.specs.MachineSteps.{MayClaim, MayScan}
use Rattle.partial_epochs.specs.Notes.{public_noted}
use Rattle.partial_long_lived.specs.Rule.{Began, SeatedPort, one_of, plan_of}
use Rattle.partial_long_lived.specs.Inner.Steps.{tells}
use Rattle.partial_long_lived.specs.Inner.Moves.{BeganBy, finding_seal}
use Rattle.partial_long_lived.specs.Inner.Loads.{SeatSees, component_at, opening_of}
use Rattle.partial_long_lived.specs.Inner.Loads.Wish.{Glances}

-- what the word of a step becomes, and what the step is answered, where the word was n
abbrev pub change_of : Step → ℕ → ℕ
change_of (Load w) n = n
change_of (Store w v) n = v
change_of (Exchange w old new) n = if n == old then new else n
change_of (Add w k) n = (n + k) % 2 ^ 64

-- what such a step answers: a store answers nothing
abbrev pub answer_found : Step → ℕ → ℕ
answer_found (Store w v) n = 0
answer_found _ n = n

-- what the machine is shown: a component word's record, without seals
abbrev pub unsealed_answer : Plan → Step → ℕ → ℕ
unsealed_answer e s n = plain e (word_of s) (answer_found s n)

-- the claim that is answered so ends past its limit, of the pool or of the slots
abbrev pub over_by : Plan → Step → ℕ → Bool
over_by e (Add w k) n = ((w == pool_counter e.sizes) && nat_lt e.limit (n + k)) || ((w == slot_counter e.sizes) && nat_lt (slot_limit e) (n + k))
over_by e _ n = false

-- the step exchanges no component word
abbrev pub IsApart : Layout → Step → Type 0
IsApart z (Exchange w old new) = z.m ≤ w
IsApart z _ = ⊤

-- nor does it add to one
abbrev pub LeavesComponents : Layout → Step → Type 0
LeavesComponents z (Exchange w old new) = z.m ≤ w
LeavesComponents z (Add w k) = z.m ≤ w
LeavesComponents z _ = ⊤

-- a conditional update of the port's machine expects a stamp that its component has had in the epoch
abbrev pub ExpectsSeen : SeatedPort → CoreState → Type 0
ExpectsSeen x c = (j s v : ℕ) → call_of (begun_with c x.port.part) ≡ Some (Call.UpdateIf j s v) →
    (n : ℕ) × (n ≤ length x.port.part.seen) × (s ≡ stamp_of (opening_of x) (take n x.port.part.seen) j)

-- the port's earlier notes show no more than it had seen as the machine's call began
abbrev pub IsShown : SeatedPort → CoreState → Type 0
IsShown x c = (is_begun c.stage ≡ true) ⊎ (seen_by 0 x.notes ≤ length (history_of x.port.before) + x.port.part.since)

-- the due step of the machine c of a port that stands in an epoch, and may claim there
pub record MayMake (x : SeatedPort) (c : CoreState) (s : Step) : Type 0 where
  pub stands : x.port.control.entering ≡ Stands
  pub machine : IsMachineOf c x.port.part
  pub due : step_of c ≡ Some s
  pub claim : MayClaim (plan_of x.about) x.port.over s
  pub scan : MayScan (plan_of x.about) c
  pub shown : IsShown x c
  pub expects : ExpectsSeen x c

-- What such a step shows, answered by a: what the one law of steps shows the machine, and what the port notes over all epochs.
pub record SeatMakes (first : Bool) (c : CoreState) (s : Step) (x : SeatedPort) (a : ℕ) (y : SeatedPort) : Type 0 where
  pub n : Began
  pub began : BeganBy first x n
  pub log : List Applied
  pub entries : List Applied
  pub told : StepShows x.about.sizes (opening_of x) log entries x.port.part c a y.port.part
  pub is : y ≡ record x {
    port = record x.port { part = y.port.part; over = x.port.over || over_by (plan_of x.about) s a };
    began = n;
    notes = x.notes ++ map (public_noted (plan_of x.about) x.port.before) told.new;
  }
  pub shown : seen_by 0 x.notes ≤ length (history_of x.port.before) + since_with c x.port.part
  -- the call isn't refused
  pub unrefused : (cause : Refused) → reply_of (advance c a) ≢ Some (Reply.Refused cause)
  -- in an epoch no older than its call the port has seen no less than there was as the call began
  pub time : n.epoch ≤ x.port.control.here.epoch → n.length ≤ length (history_of x.port.before) + length (log ++ entries)

-- the word that an exchange has found isn't the record that it expects, sealed
abbrev pub MissesSeal : ℕ → ℕ → Type 0
MissesSeal old a = (a < seal) ⊎ (unsealed a ≢ old)

-- the exchange of a component word finds the record that it expects, but sealed, and meets the seal; or it is a step of the machine
abbrev pub Exchanges : CoreState → ℕ → Step → SeatedPort → ℕ → SeatedPort → Type 0
Exchanges c old s x a y = (IsSealed a × (unsealed a ≡ old) × (y ≡ finding_seal x))
    ⊎ (MissesSeal old a × SeatMakes false c s x (unsealed_answer (plan_of x.about) s a) y)

-- the step of a machine, as the seat is shown it
abbrev pub makes : {S : Type 0} → Bool → CoreState → Step → Me S (List SeatedPort) → ℕ → Me S (List SeatedPort) → Type 0
makes first c s me = tells (λ x a y. SeatMakes first c s x (unsealed_answer (plan_of x.about) s a) y) me

-- a further step of the call of the seat's port: of the machine to which the port's kept answers lead
abbrev pub goes_on : {S : Type 0} → Step → Me S (List SeatedPort) → ℕ → Me S (List SeatedPort) → Type 0
goes_on s me = makes false (core_of (one_of me.0).port.part) s me

-- The load of the word w of which the machine c is to store 0. Where the word is 0, the load is that step; otherwise it shows nothing.
abbrev pub FindsZero : CoreState → ℕ → SeatedPort → ℕ → SeatedPort → Type 0
FindsZero c w x a y = ((a ≡ 0) × SeatMakes false c (Store w 0) x (unsealed_answer (plan_of x.about) (Store w 0) a) y) ⊎ ((a ≢ 0) × (y ≡ x))

-- that load in the call of the seat's port
abbrev pub finds_zero : {S : Type 0} → ℕ → Me S (List SeatedPort) → ℕ → Me S (List SeatedPort) → Type 0
finds_zero w me = tells (FindsZero (core_of (one_of me.0).port.part) w) me

-- the exchange of the component of that call
abbrev pub exchanges : {S : Type 0} → ℕ → Step → Me S (List SeatedPort) → ℕ → Me S (List SeatedPort) → Type 0
exchanges old s me = tells (Exchanges (core_of (one_of me.0).port.part) old s) me

-- the word of the arena where the seat's port stands that is that word of the table
abbrev pub word_at : {S : Type 0} → Me S (List SeatedPort) → ℕ → ℕ
word_at me i = component_at (one_of me.0) i

-- The load of component j by which the machine c of an update begins, in an epoch no older than its call, unless the component is sealed: then
-- the port sees it, and meets the seal.
abbrev pub SeatBegins : Bool → CoreState → ℕ → SeatedPort → ℕ → SeatedPort → Type 0
SeatBegins first c j x a y = ((z : SeatedPort) × IsSealed a × SeatSees first Glances j x a z × (y ≡ finding_seal z))
    ⊎ ((a < seal) × SeatMakes first c (Load j) x a y × (y.began.epoch ≤ x.port.control.here.epoch))

-- the same of what a seat knows
abbrev pub begins : {S : Type 0} → Bool → CoreState → ℕ → Me S (List SeatedPort) → ℕ → Me S (List SeatedPort) → Type 0
begins first c i me = tells (SeatBegins first c (component_at (one_of me.0) i)) me
