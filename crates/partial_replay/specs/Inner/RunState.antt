-- The state of a replay: lawful, with a part for each port, and a trace that leads to its words.
use Rattle.std.specs.Prelude.{ℕ, ◌≡◌, ◌≢◌, ◌+◌, ◌*◌, ◌-◌, ◌<◌, ◌^◌, ⊤, zero, suc, List, [], ◌∷◌, length, slice_get, Option, Some, None, IsSome, ◌++◌, map}
use Rattle.std.specs.List.{AllByRecursion, filter_map}
use Rattle.partial_model.specs.declared.history.Applied.{Applied}
use Rattle.partial_model.specs.declared.history.Opening.{Opening}
use Rattle.partial_model.specs.declared.call.Call.{Call}
use Rattle.partial_model.specs.declared.call.Called.{Called}
use Rattle.partial_words.specs.Layout.{Layout}
use Rattle.partial_words.specs.Step.{Leads}
use Rattle.partial_words.specs.Chain.{AreOpeningWords}
use Rattle.std.specs.Option.{option_map_or}
use Rattle.partial_machine.specs.Machine.{fresh}
use Rattle.partial_machine.specs.Bounds.{steps_left, most_of_update}
use Rattle.partial_core.specs.Part.{Part}
use Rattle.partial_core.specs.Lawful.{Lawful}
use Rattle.partial_replay.specs.declared.memory.Memory.{Memory}
use Rattle.partial_replay.specs.declared.port.Port.{Port}
use Rattle.partial_replay.specs.declared.port.UnderWay.{UnderWay}
use Rattle.partial_replay.specs.declared.run.Run.{Run}
use Rattle.partial_replay.specs.Replayed.{OutcomeView}
use Rattle.partial_replay.specs.Trace.{event_entry, moments_by}
use Rattle.partial_replay.specs.Inner.PortState.{PortFits, PortMade, unfinished_call}
use Rattle.partial_machine.specs.Calls.{IsServed}

-- what a replay has made: its sizes, its opening, its memory, and its ports by their number
pub record ReplayState : Type 0 where
  pub sizes : Layout
  pub opening : Opening
  pub memory : Memory
  pub ports : List Port

-- the state of a run
abbrev pub state_of : Run → ReplayState
state_of run = record { sizes = run.memory.sizes; opening = run.opening; memory = run.memory; ports = run.ports.items }

-- port p of a replay, and the calls that it has to make
pub record PortAt (plans : List (List Call)) (ports : List Port) (p : ℕ) (calls : List Call) (port : Port) : Type 0 where
  pub plan : slice_get plans p ≡ Some calls
  pub is : slice_get ports p ≡ Some port

-- the ports from number p on, each with its calls and its part
pub data PortsFit (o : Opening) (log : List Applied) : ℕ → List (List Call) → List Part → List Port → Type 0 where
  no_ports : {p : ℕ} → PortsFit o log p [] [] []
  first_port : {p : ℕ} {calls : List Call} {plans : List (List Call)} {x : Part} {parts : List Part} {port : Port} {ports : List Port} →
      PortFits o log calls p x port → PortsFit o log (p + 1) plans parts ports → PortsFit o log p (calls ∷ plans) (x ∷ parts) (port ∷ ports)

-- the calls of a plan's ports: each is one that the machine serves, and a call's number fits 32 bits
abbrev pub ArePlans : ℕ → List (List Call) → Type 0
ArePlans m plans = AllByRecursion (λ calls. (length calls < 2 ^ 32) × AllByRecursion (IsServed m) calls) plans

-- each port's events are the steps of its calls
abbrev pub ArePortsMade : List (List Call) → ReplayState → Type 0
ArePortsMade plans s = (q : ℕ) (calls : List Call) (port : Port) → PortAt plans s.ports q calls port →
    PortMade s.sizes (length s.memory.history.items) calls q (moments_by s.sizes.m q s.memory.trace) port

-- the call under way of a port has made a step
abbrev pub AreStarted : List Port → Type 0
AreStarted ports = (q : ℕ) (port : Port) (way : UnderWay) → slice_get ports q ≡ Some port → port.under_way ≡ Some way → 0 < way.steps

-- each call under way has made a step, but perhaps that of port p
abbrev pub AreStartedBut : ℕ → List Port → Type 0
AreStartedBut p ports = (q : ℕ) (port : Port) (way : UnderWay) → q ≢ p → slice_get ports q ≡ Some port →
    port.under_way ≡ Some way → 0 < way.steps

-- an entry without its value, which stands in its record
abbrev pub unvalued : Applied → Applied
unvalued e = record { port = e.port; component = e.component; value = 0; stamp = e.stamp }

-- the state of a replay of these calls is lawful, and its trace leads from the words at opening to its words
pub record IsRunOf (plans : List (List Call)) (s : ReplayState) : Type 0 where
  pub parts : List Part
  pub opened : List ℕ
  pub opens : AreOpeningWords s.sizes s.opening.values opened
  pub lawful : Lawful s.sizes s.opening s.memory.words parts s.memory.history.items
  pub fit : PortsFit s.opening s.memory.history.items 0 plans parts s.ports
  pub leads : Leads opened s.memory.trace s.memory.words
  -- the won exchanges of component words in the trace are the history, but for the values
  pub entries : filter_map (event_entry s.sizes.m (λ _. 0)) s.memory.trace ≡ map unvalued s.memory.history.items
  -- each port's events are the steps of its calls
  pub senders : AllByRecursion (λ e. e.port < length plans) s.memory.trace
  pub made : ArePortsMade plans s

-- there is room to find the place of a scan
abbrev pub RunHasRoom : Run → Type 0
RunHasRoom run = run.memory.places ≡ run.memory.sizes.m

-- a replay of these calls: its state is lawful, and there is room to find the places of scans
pub record IsReplay (plans : List (List Call)) (run : Run) : Type 0 where
  pub state : IsRunOf plans (state_of run)
  pub room : RunHasRoom run
  pub served : ArePlans run.memory.sizes.m plans

-- a replay between two turns: each call under way has made a step
pub record IsBetweenTurns (plans : List (List Call)) (run : Run) : Type 0 where
  pub replay : IsReplay plans run
  pub started : AreStarted run.ports.items

-- only the ports are others
pub record ChangesPortsOnly (old new : Run) : Type 0 where
  pub memory : new.memory ≡ old.memory
  pub opening : new.opening ≡ old.opening

-- a replay goes on with the same sizes from the same opening
pub record IsSameOpening (old new : Run) : Type 0 where
  pub sizes : new.memory.sizes ≡ old.memory.sizes
  pub opening : new.opening ≡ old.opening

-- how many steps a port has left at most for so many calls, with one more for each
abbrev pub left_for : Layout → ℕ → ℕ
left_for z calls = (most_of_update z + 1) * calls

-- how many steps a port has left at most: of the call under way, and of those after it
abbrev pub port_left : List Call → Port → ℕ
port_left calls port = option_map_or (λ way. left_for port.core.sizes (length calls - length port.finished.items - 1) +
    steps_left port.core)
    port.under_way (left_for port.core.sizes (length calls - length port.finished.items))

-- the steps left of the port with that number, where there is one
abbrev pub port_left_at : ℕ → List (List Call) → List Port → ℕ
port_left_at p [] ports = 0
port_left_at p (calls ∷ plans) [] = 0
port_left_at zero (calls ∷ plans) (port ∷ ports) = port_left calls port
port_left_at (suc p) (calls ∷ plans) (port ∷ ports) = port_left_at p plans ports

-- a call of the port with that number is under way, and any other call under way has made a step
pub record IsTurnReady (p : ℕ) (run : Run) : Type 0 where
  pub port : Port
  pub way : UnderWay
  pub is : slice_get run.ports.items p ≡ Some port
  pub under : port.under_way ≡ Some way
  pub started : AreStartedBut p run.ports.items

-- so many ports from that number on that have made no call
abbrev pub FreshFrom : Layout → ℕ → List Port → Type 0
FreshFrom z p [] = ⊤
FreshFrom z p (port ∷ ports) = (port.number ≡ p) × (port.core ≡ fresh z p) × (port.finished.items ≡ []) × (port.under_way ≡ None) ×
    FreshFrom z (p + 1) ports

-- n ports, numbered from 0, none of which has made a call
abbrev pub AreFreshPorts : Layout → ℕ → List Port → Type 0
AreFreshPorts z n ports = (length ports ≡ n) × FreshFrom z 0 ports

-- the call that a port leaves unfinished, if it has one
abbrev pub left_over : Port → Option Call → Option UnderWay → List Called
left_over port (Some call) (Some way) = unfinished_call port.number (length port.finished.items) call way ∷ []
left_over port _ _ = []

-- the calls that the ports have begun: of each the finished ones, and then the one that is left unfinished
abbrev pub calls_in : List (List Call) → List Port → List Called
calls_in (calls ∷ plans) (port ∷ ports) = port.finished.items ++
    left_over port (slice_get calls (length port.finished.items)) port.under_way ++ calls_in plans ports
calls_in _ _ = []

-- each port has its calls, and a call under way is one of them
abbrev pub AreListed : List (List Call) → List Port → Type 0
AreListed [] [] = ⊤
AreListed (calls ∷ plans) (port ∷ ports) = (length calls < 2 ^ 32) ×
    (IsSome port.under_way → length port.finished.items < length calls) × AreListed plans ports
AreListed _ _ = ⊥

-- what a replay has made in the end
pub record GivesOutcome (plans : List (List Call)) (run : Run) (outcome : OutcomeView) : Type 0 where
  pub opening : outcome.opening ≡ run.opening
  pub history : outcome.history ≡ run.memory.history.items
  pub calls : outcome.calls ≡ calls_in plans run.ports.items
  pub words : outcome.words ≡ run.memory.words
  pub trace : outcome.trace ≡ run.memory.trace
  pub steps : outcome.steps ≡ length run.memory.trace
