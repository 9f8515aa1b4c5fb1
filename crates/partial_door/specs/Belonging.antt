-- That ports are those of a memory is one fact.
use Rattle.std.specs.Prelude.{List}
use Rattle.std.specs.List.{AllByRecursion, AllByRecursion-prop}
use denote.Struct.Props.{≡_prop}
use Rattle.partial_memory.specs.Ports.{IsOf, MemoryView, PortView}
use Rattle.partial_memory.specs.contracts.memory.Memory.{the_row}
use Rattle.partial_long_lived.specs.Ports as long
use Rattle.partial_long_lived.specs.contracts.long_lived.LongLived as long_lived

-- the ports belong to the memory
abbrev pub AreOfOpening : MemoryView → List PortView → Type 0
AreOfOpening m ports = AllByRecursion (IsOf m) ports

-- it holds in one way at most
pub AreOfOpening-prop : (m : MemoryView) (ports : List PortView) → IsProp (AreOfOpening m ports)
AreOfOpening-prop m = AllByRecursion-prop (IsOf m) (λ p. ≡_prop the_row.coded p.memory m)

-- the ports belong to the long-lived memory
abbrev pub AreOf : long.MemoryView → List long.PortView → Type 0
AreOf m ports = AllByRecursion (long.IsOf m) ports

-- this too holds in one way at most
pub AreOf-prop : (m : long.MemoryView) (ports : List long.PortView) → IsProp (AreOf m ports)
AreOf-prop m = AllByRecursion-prop (long.IsOf m) (λ p. ≡_prop long_lived.the_row.coded p.memory m)
