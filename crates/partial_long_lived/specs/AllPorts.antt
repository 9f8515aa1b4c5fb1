-- What holds of a memory that is closed with all its ports: one history, of which each entry is in the notes of exactly one port.
use Rattle.std.specs.Prelude.{ℕ, ◌≡◌, ◌+◌, ◌<◌, ◌==◌, List, [], ◌∷◌, ◌++◌, length, take, Contains, slice_get, Some, if◌then◌else◌}
use Rattle.std.specs.List.{AllByRecursion}
use Rattle.partial_model.specs.declared.history.Applied.{Applied}
use Rattle.partial_model.specs.declared.history.Opening.{Opening}
use Rattle.partial_model.specs.History.{IsHistory}
use Rattle.partial_model.specs.Notes.{LegalNotes}
use Rattle.partial_model.specs.Outcome.{EachOnce, places_written}
use Rattle.partial_model.specs.Entries.{entries_by, applied_by}
use Rattle.partial_long_lived.specs.Rule.{newcomers}
use Rattle.partial_long_lived.specs.Ports.{AreByOpened, IsOf, MemoryView, PortView, new_ports}
use Rattle.partial_long_lived.specs.Closing.{AreLast, Closes}

-- how many of these ports have that number
abbrev pub port_count : ℕ → List PortView → ℕ
port_count k [] = 0
port_count k (p ∷ ps) = (if p.number == k then 1 else 0) + port_count k ps

-- the ports are all with which the memory was opened, in any order
pub record AreAllPorts (m : MemoryView) (ports : List PortView) : Type 0 where
  pub own : AllByRecursion (IsOf m) ports
  pub one : (k : ℕ) → k < m.about.ports → port_count k ports ≡ 1

-- the ports with which a memory opens, as `open` gives them, are all
abbrev pub OpenedPortsAreAll : Type 0
OpenedPortsAreAll =
    (m : MemoryView) (ports : ℕ) → m.about.ports ≡ ports → AreAllPorts m (new_ports m.table (newcomers m.about 0 ports))

-- A port in a history: what it had seen is a beginning of it, its notes are legal there, each with its place, and its entries are those
-- that its notes claim, each once: the updates that the notes say were applied, in order.
pub record IsPortIn (o : Opening) (log : List Applied) (port : PortView) : Type 0 where
  pub seen : port.seen ≡ take (length port.seen) log
  pub legal : LegalNotes o log port.number 0 port.notes
  pub once : EachOnce log port.number port.notes
  pub entries : entries_by port.number log ≡ applied_by port.number port.notes

-- the entry e at place k is in the notes of the port of its number, and in those of no other
pub record IsInOnePort (ports : List PortView) (k : ℕ) (e : Applied) : Type 0 where
  pub front : List PortView
  pub port : PortView
  pub back : List PortView
  pub is : ports ≡ front ++ port ∷ back
  pub number : port.number ≡ e.port
  pub wrote : Contains (places_written port.notes) k
  pub alone : AllByRecursion (λ other. ¬ Contains (places_written other.notes) k) (front ++ back)

-- A memory that was closed with all its ports: there is one history of distinct stamps over all epochs, of which these are the ports.
-- Each of its entries is in the notes of exactly one of them, and these are the values after it.
pub record ClosesWithAll (m : MemoryView) (ports : List PortView) (values : List ℕ) : Type 0 where
  pub log : List Applied
  pub history : IsHistory m.about.opening log
  pub below : AreByOpened m.about log
  pub each : AllByRecursion (IsPortIn m.about.opening log) ports
  pub noted : (k : ℕ) (e : Applied) → slice_get log k ≡ Some e → IsInOnePort ports k e
  pub last : AreLast m.about.opening log values

-- what holds of a closed memory when all its ports were handed in
abbrev pub ClosedWithAllPorts : Type 0
ClosedWithAllPorts =
    (m : MemoryView) (ports : List PortView) (values : List ℕ) → AreAllPorts m ports → Closes m ports values → ClosesWithAll m ports values
