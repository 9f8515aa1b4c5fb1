-- The steps of a port's machine, made in the arena where the port stands.
use Rattle.std.specs.Prelude.{ℕ, ◌+◌, ◌<◌, ◌≤◌, ◌==◌, nat_lt, Bool, List, [], slice_index, ◌++◌, length, ◌≡◌, ◌≢◌, ◌⊎◌, ⊤, Some, false, ◌&&◌, ◌||◌}
use Rattle.partial_words.specs.Layout.{pool_counter, pool_end, slot_counter}
use Rattle.partial_words.specs.declared.step.Step.{Step}
use Rattle.partial_words.specs.declared.step.Step.TheVariants.{Exchange, Add}
use Rattle.std.specs.List.{AllByRecursion}
use Rattle.partial_model.specs.declared.history.Applied.{Applied}
use Rattle.partial_core.specs.Part.{IsMachineOf}
use Rattle.partial_words.specs.Step.{answer_of, word_of, words_after}
use Rattle.partial_model.specs.declared.call.Refused.{Refused}
use Rattle.partial_machine.specs.declared.stage.Reply.{Reply}
use Rattle.partial_machine.specs.declared.stage.Stage.TheVariants.{ScanBegun}
use Rattle.partial_machine.specs.Machine.{CoreState, advance, reply_of, step_of}
use Rattle.partial_core.specs.Steps.{StepShows}
use Rattle.partial_epochs.specs.Lists.{put}
use Rattle.partial_epochs.specs.Layout.{Plan, component_words, unsealed, IsSealed, plain, arena_words, based_step, greatest_claim_of, slot_limit}
use Rattle.partial_epochs.specs.History.{opened_after}
use Rattle.partial_epochs.specs.Ports.{Port}
use Rattle.partial_epochs.specs.Epochs.{Beside, IsStanding, LawfulEpochs, IsPresent}
use Rattle.partial_epochs.specs.Ports.Entering.{Stands}

-- an unsealed component word of the arena where a port stands shows that its epoch is the current one
abbrev pub UnsealedIsPresent : Type 0
UnsealedIsPresent = (e : Plan) (words : List ℕ) (ports : ℕ → Port) (b : Beside) (k j : ℕ) → LawfulEpochs e words ports b →
    k < e.ports → (ports k).control.entering ≡ Stands → j < e.sizes.m →
    ¬ IsSealed (slice_index (component_words e words (ports k).control.here.arena) j) → IsPresent b k (ports k)

-- the exchange of a component finds the record that it expects, but sealed: it isn't won, and shows the machine nothing
abbrev pub MeetsSeal : Plan → List ℕ → Step → Type 0
MeetsSeal e components (Exchange w old new) =
    (w < e.sizes.m) × IsSealed (slice_index components w) × (unsealed (slice_index components w) ≡ old)
MeetsSeal e components _ = ⊥

-- whether the step is a claim that ends past its limit, of the pool or of the slots
abbrev pub ends_over : Plan → List ℕ → Step → Bool
ends_over e words (Add w n) = ((w == pool_counter e.sizes) && nat_lt e.limit (slice_index words w + n))
    || ((w == slot_counter e.sizes) && nat_lt (slot_limit e) (slice_index words w + n))
ends_over e words _ = false

-- a port that has made such a claim makes no further claim of the pool
abbrev pub MayClaim : Plan → Bool → Step → Type 0
MayClaim e over (Add w n) = w ≡ pool_counter e.sizes → over ≡ false
MayClaim e over _ = ⊤

-- a machine begins a scan only where scans announce themselves
abbrev pub MayScan : Plan → CoreState → Type 0
MayScan e c = e.announces ≡ false → c.stage ≢ ScanBegun

-- What the due step of a port's machine leads to, made in the arena where the port stands: the machine's answer is the one that the words
-- give without their seals, and the one law of steps shows the port what it shows.
pub record MachineLeads (e : Plan) (words : List ℕ) (ports : ℕ → Port) (b : Beside) (k : ℕ) (c : CoreState) (step : Step) : Type 0 where
  pub standing : IsStanding b k (ports k)
  -- the step meets no seal
  pub unmet : ¬ MeetsSeal e (component_words e words (ports k).control.here.arena) step
  pub within : word_of (based_step e (ports k).control.here.arena step) < length words
  pub gives : plain e (word_of step) (answer_of words (based_step e (ports k).control.here.arena step))
      ≡ answer_of (arena_words e words (ports k).control.here.arena) step
  pub port : Port
  pub entries : List Applied
  pub control : port.control ≡ (ports k).control
  pub before : port.before ≡ (ports k).before
  pub passed : port.passed ≡ (ports k).passed
  pub over : port.over ≡ ((ports k).over || ends_over e (arena_words e words (ports k).control.here.arena) step)
  pub tells : StepShows e.sizes (opened_after e.opening (ports k).before) standing.epoch.log entries (ports k).part c
      (answer_of (arena_words e words (ports k).control.here.arena) step) port.part
  -- the history grows in the current epoch alone
  pub present : (entries ≡ []) ⊎ IsPresent b k (ports k)
  -- each entry is the port's own
  pub own : AllByRecursion (λ a. a.port ≡ k) entries
  -- nothing is applied to a component that is sealed
  pub free : AllByRecursion (λ a. ¬ IsSealed (slice_index (component_words e words (ports k).control.here.arena) a.component)) entries
  pub beside : Beside
  pub log : beside.log ≡ b.log ++ entries
  pub epochs : beside.before ≡ b.before
  pub lawful : LawfulEpochs e (words_after words (based_step e (ports k).control.here.arena step)) (put k port ports) beside

-- each due step of a machine keeps the lawful state; where it meets a seal nothing changes
abbrev pub MachineStepsStayLawful : Type 0
MachineStepsStayLawful = (e : Plan) (words : List ℕ) (ports : ℕ → Port) (b : Beside) (k : ℕ) (c : CoreState) (step : Step) →
    LawfulEpochs e words ports b → k < e.ports → (ports k).control.entering ≡ Stands → IsMachineOf c (ports k).part →
    step_of c ≡ Some step → MayClaim e (ports k).over step → MayScan e c →
    (MeetsSeal e (component_words e words (ports k).control.here.arena) step
    × (words_after words (based_step e (ports k).control.here.arena step) ≡ words))
    ⊎ MachineLeads e words ports b k c step

-- a port that has made no claim past the limit has room for its next one
abbrev pub ClaimsHaveRoom : Type 0
ClaimsHaveRoom = (e : Plan) (words : List ℕ) (ports : ℕ → Port) (b : Beside) (k : ℕ) → LawfulEpochs e words ports b → k < e.ports →
    (ports k).control.entering ≡ Stands → (ports k).over ≡ false →
    slice_index (arena_words e words (ports k).control.here.arena) (pool_counter e.sizes) + greatest_claim_of e ≤ pool_end e.sizes

-- there is a slot for each port, so that one is left for each after the slot limit
abbrev pub HaveSlots : Plan → Type 0
HaveSlots e = e.ports ≤ e.sizes.slots

-- no machine of a port that stands is spent, neither for the pool nor for the slots
abbrev pub MachinesAreNeverSpent : Type 0
MachinesAreNeverSpent = (e : Plan) (words : List ℕ) (ports : ℕ → Port) (b : Beside) (k : ℕ) (c : CoreState) → LawfulEpochs e words ports b →
    k < e.ports → (ports k).control.entering ≡ Stands → HaveSlots e → IsMachineOf c (ports k).part →
    (c.pool_spent ≡ false) × (c.slots_spent ≡ false)

-- no step of a machine ends its call with a refusal
abbrev pub MachinesAreNeverRefused : Type 0
MachinesAreNeverRefused = (e : Plan) (words : List ℕ) (ports : ℕ → Port) (b : Beside) (k : ℕ) (c : CoreState) (step : Step) →
    k < e.ports → (ports k).control.entering ≡ Stands → HaveSlots e → (lead : MachineLeads e words ports b k c step) → (cause : Refused) →
    reply_of (advance c (answer_of (arena_words e words (ports k).control.here.arena) step)) ≢ Some (Reply.Refused cause)
