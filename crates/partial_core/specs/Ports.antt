-- What a lawful state says of its ports: how they fit the history, what they learn by a look, and how many steps their calls have made.
use Rattle.std.specs.Prelude.{ℕ, ◌≡◌, ◌+◌, ◌<◌, ◌≤◌, List, length, map, take, Contains, Some, is_some, not}
use Rattle.std.specs.List.{AllByRecursion}
use Rattle.partial_model.specs.declared.call.Call.{Call}
use Rattle.partial_model.specs.declared.history.Applied.{Applied}
use Rattle.partial_model.specs.declared.history.Opening.{Opening}
use Rattle.partial_model.specs.History.{IsHistory, initial_stamp}
use Rattle.partial_words.specs.Layout.{Layout, IsLayout}
use Rattle.partial_words.specs.Record.{view_word}
use Rattle.partial_words.specs.Chain.{Agrees}
use Rattle.partial_machine.specs.Machine.{CoreState, step_of}
use Rattle.partial_machine.specs.Calls.{is_at_rest, call_of}
use Rattle.partial_machine.specs.Sound.{IsSound}
use Rattle.partial_machine.specs.Bounds.{most_steps, steps_left}
use Rattle.partial_core.specs.Part.{Part, PartAmong, core_of, port_of, IsMachineOf, with_seen}
use Rattle.partial_core.specs.Lawful.{Lawful, LawfulAmong}
use Rattle.partial_core.specs.Steps.{FitsHistory}

-- each port fits the whole history, with a machine of the memory's sizes, and each entry is by one of the ports
pub record PortsFitHistory (z : Layout) (o : Opening) (parts : List Part) (log : List Applied) : Type 0 where
  pub each : AllByRecursion (FitsHistory o log) parts
  pub sizes : AllByRecursion (λ x. (core_of x).sizes ≡ z) parts
  pub others : AllByRecursion (λ e. Contains (map port_of parts) e.port) log

-- the ports of a lawful state fit its history
abbrev pub LawfulPortsFit : Type 0
LawfulPortsFit = (z : Layout) (o : Opening) (words : List ℕ) (parts : List Part) (log : List Applied) →
    Lawful z o words parts log → PortsFitHistory z o parts log

-- the words agree with the history, and each record lies within them, after the component words
pub record RecordsAreWithin (z : Layout) (o : Opening) (words : List ℕ) (log : List Applied) : Type 0 where
  pub sizes : IsLayout z
  pub values : length o.values ≡ z.m
  pub history : IsHistory o log
  pub agrees : Agrees o words log
  pub initial : (j : ℕ) → j < z.m → (z.m ≤ initial_stamp o j) × (view_word (initial_stamp o j) < length words)
  pub entries : AllByRecursion (λ e. (z.m ≤ e.stamp) × (view_word e.stamp < length words)) log

-- the records of a lawful state are within its words
abbrev pub LawfulRecordsAreWithin : Type 0
LawfulRecordsAreWithin = (z : Layout) (o : Opening) (words : List ℕ) (parts : List Part) (log : List Applied) →
    Lawful z o words parts log → RecordsAreWithin z o words log

-- what a look at the whole history leads to: the load of a component word by a port, between two of its calls or within one
pub record Looks (z : Layout) (o : Opening) (m : PartAmong) : Type 0 where
  pub there : 0 < length m.words
  pub seen : m.part.seen ≡ take (length m.part.seen) m.log
  pub fits : FitsHistory o m.log (with_seen m.log m.part)
  pub lawful : LawfulAmong z o (record m { part = with_seen m.log m.part })

-- a look leads to a lawful state
abbrev pub LooksStayLawful : Type 0
LooksStayLawful = (z : Layout) (o : Opening) (m : PartAmong) → LawfulAmong z o m → Looks z o m

-- the steps of the port's last call, with those that are left of it at most, are no more than such a call may make
abbrev pub HasFewSteps : Layout → Part → Type 0
HasFewSteps z x = (c : Call) → call_of x.begun ≡ Some c → length x.kept + steps_left (core_of x) ≤ most_steps z c

-- in a lawful state no call has made too many steps
abbrev pub LawfulCallsAreBounded : Type 0
LawfulCallsAreBounded = (z : Layout) (o : Opening) (words : List ℕ) (parts : List Part) (log : List Applied) →
    Lawful z o words parts log → AllByRecursion (HasFewSteps z) parts

-- what a lawful state says of the machine of a port, with a call begun or where the kept answers lead
pub record IsReady (z : Layout) (c : CoreState) (x : Part) : Type 0 where
  pub sound : IsSound c
  pub sizes : c.sizes ≡ z
  pub number : c.port ≡ port_of x
  -- a step is due unless it is at rest
  pub due : is_some (step_of c) ≡ not (is_at_rest c.stage)

-- the machines of a lawful state are ready
abbrev pub LawfulMachinesAreReady : Type 0
LawfulMachinesAreReady = (z : Layout) (o : Opening) (m : PartAmong) (c : CoreState) →
    LawfulAmong z o m → IsMachineOf c m.part → IsReady z c m.part
