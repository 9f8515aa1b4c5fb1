-- What the calls at the handle of a single opening leave: opening, taking ports out and giving them back, closing, and opening again.
use Rattle.std.specs.Prelude.{ℕ, ◌≡◌, ◌⊎◌, ◌<◌, ◌≤◌, ◌++◌, List, [], ◌∷◌, length}
use Rattle.std.specs.Arc.{arc_value}
use Rattle.partial_words.specs.Layout.{Layout, IsLayout, pool_base}
use Rattle.partial_words.specs.declared.sizes.SizeError.{SizeError}
use Rattle.partial_words.specs.SizeFault.{IsFirstFault, size_code}
use Rattle.partial_memory.specs.declared.error.OpenError.{OpenError}
use Rattle.partial_memory.specs.declared.closed.Closed.{Closed}
use Rattle.partial_memory.specs.Rule.{newcomers}
use Rattle.partial_memory.specs.Ports.{MayNotOpen, PortView, new_ports, open_code}
use Rattle.partial_memory.specs.Closing.{Closes}
use Rattle.partial_memory.specs.Reopening.{ContinuesAll, MayNotReopen, extended_values}
use Rattle.partial_memory.specs.Calls.{Meets}
use Rattle.partial_door.specs.declared.answers.RoomSizes.{RoomSizes}
use Rattle.partial_door.specs.declared.held.OpeningMemory.{OpeningMemory}
use Rattle.partial_door.specs.declared.held.OpeningPort.{OpeningPort}
use Rattle.partial_door.specs.declared.held.Held.{Held}
use Rattle.partial_door.specs.OpeningCalls.{HoldsNoOpeningPort, IsSameOpeningReference}

-- no open memory is held
abbrev pub HoldsNoOpening : Held → Type 0
HoldsNoOpening (Held.OpeningMemory m) = ⊥
HoldsNoOpening _ = Unit {0}

-- no closed memory is held
abbrev pub HoldsNoClosed : Held → Type 0
HoldsNoClosed (Held.Closed c) = ⊥
HoldsNoClosed _ = Unit {0}

-- the sizes of a memory of m components
abbrev pub layout_of : ℕ → RoomSizes → Layout
layout_of m z = record { m = m; slots = z.slots; lists = z.lists; pool = z.pool }

-- a memory that was opened with these sizes and values: it holds all its ports
pub record HasOpened (opening : ℕ) (z : Layout) (initial : List ℕ) (ports : ℕ) (m : OpeningMemory) : Type 0 where
  pub number : m.opening ≡ opening
  pub sizes : (arc_value m.memory).about.sizes ≡ z
  pub many : (arc_value m.memory).about.ports ≡ ports
  pub values : (arc_value m.memory).about.opening.values ≡ initial
  pub first : (arc_value m.memory).about.opening.first ≡ pool_base z
  pub count : m.count ≡ ports
  pub held : m.ports.items ≡ new_ports (arc_value m.memory).table (newcomers (arc_value m.memory).about 0 ports)

-- that is what is held
abbrev pub HoldsOpened : ℕ → Layout → List ℕ → ℕ → Held → Type 0
HoldsOpened opening z initial ports h = (m : OpeningMemory) × (h ≡ Held.OpeningMemory m) × HasOpened opening z initial ports m

-- why a memory may not open: the first size that is out of its range, then the number of ports, then want of memory
abbrev pub MayNotOpenWith : Layout → ℕ → ℕ → Type 0
MayNotOpenWith z ports code =
    ((e : SizeError) × (code ≡ size_code e) × IsFirstFault z e)
    ⊎ ((e : OpenError) × (code ≡ open_code e) × IsLayout z × MayNotOpen ports e)

-- what is held is a memory that goes on with these values of a closed one, and zeros after them
abbrev pub GoesOnWith : ℕ → List ℕ → Layout → ℕ → Held → Type 0
GoesOnWith opening values z ports h =
    (m : OpeningMemory) × (h ≡ Held.OpeningMemory m) × (length values ≤ z.m) × HasOpened opening z (extended_values z.m values) ports m
    × ContinuesAll values (arc_value m.memory).about.opening

-- it goes on with those of what was held
abbrev pub HoldsReopened : ℕ → Held → Layout → ℕ → Held → Type 0
HoldsReopened opening closed z ports h = (c : Closed) × (closed ≡ Held.Closed c) × GoesOnWith opening c.values.items z ports h

-- why that many values may not go on in such a memory: the first size that is out of its range, then the cause of the reopening
abbrev pub MayNotGoOn : ℕ → Layout → ℕ → ℕ → Type 0
MayNotGoOn count z ports code =
    ((e : SizeError) × (code ≡ size_code e) × IsFirstFault z e)
    ⊎ ((e : OpenError) × (code ≡ open_code e) × IsLayout z × MayNotReopen ports count z.m e)

-- why what is held may not be opened again: it is no closed memory, or its values may not go on
abbrev pub MayNotReopenWith : Held → Layout → ℕ → ℕ → Type 0
MayNotReopenWith closed z ports code =
    (HoldsNoClosed closed × (code ≡ 17))
    ⊎ ((c : Closed) × (closed ≡ Held.Closed c) × MayNotGoOn (length c.values.items) z ports code)

-- an open memory, apart from the ports that it holds
pub record IsSameOpenOpening (m n : OpeningMemory) : Type 0 where
  pub opening : n.opening ≡ m.opening
  pub count : n.count ≡ m.count
  pub memory : arc_value n.memory ≡ arc_value m.memory

-- the last port that the memory holds is taken out
abbrev pub TakesOpeningPort : Held → Held → Held → Type 0
TakesOpeningPort h taken k =
    (m : OpeningMemory) × (n : OpeningMemory) × (p : OpeningPort) × (h ≡ Held.OpeningMemory m) × (k ≡ Held.OpeningMemory n)
    × (taken ≡ Held.OpeningPort p)
    × IsSameOpenOpening m n × (m.ports.items ≡ n.ports.items ++ p.port ∷ [])
    × (p.opening ≡ m.opening) × (arc_value p.memory ≡ arc_value m.memory)

-- why no port is taken out: there is no open memory, or it holds no port, or it holds one and an allocation was refused
abbrev pub MayNotTakeOpening : Held → ℕ → Type 0
MayNotTakeOpening h code =
    (HoldsNoOpening h × (code ≡ 17))
    ⊎ ((m : OpeningMemory) × (h ≡ Held.OpeningMemory m) × (length m.ports.items ≡ 0) × (code ≡ 21))
    ⊎ ((m : OpeningMemory) × (h ≡ Held.OpeningMemory m) × (0 < length m.ports.items) × (code ≡ 6))

-- a port is returned to its memory
abbrev pub GivesOpeningPort : Held → Held → Held → Type 0
GivesOpeningPort h given k =
    (m : OpeningMemory) × (n : OpeningMemory) × (p : OpeningPort) × (h ≡ Held.OpeningMemory m) × (k ≡ Held.OpeningMemory n)
    × (given ≡ Held.OpeningPort p)
    × (p.opening ≡ m.opening) × IsSameOpenOpening m n × (n.ports.items ≡ m.ports.items ++ p.port ∷ [])

-- why a port isn't returned: there is no open memory or no port, or the two are of two openings, or an allocation was refused
abbrev pub MayNotGiveOpening : Held → Held → ℕ → Type 0
MayNotGiveOpening h given code =
    (HoldsNoOpening h × (code ≡ 17))
    ⊎ (HoldsNoOpeningPort given × (code ≡ 17))
    ⊎ ((m : OpeningMemory) × (p : OpeningPort) × (h ≡ Held.OpeningMemory m) × (given ≡ Held.OpeningPort p)
    × (p.opening ≡ m.opening → ⊥) × (code ≡ 20))
    ⊎ ((m : OpeningMemory) × (p : OpeningPort) × (h ≡ Held.OpeningMemory m) × (given ≡ Held.OpeningPort p)
    × (p.opening ≡ m.opening) × (code ≡ 6))

-- the memory holds the same ports as before
abbrev pub KeepsOpeningPorts : Held → Held → Type 0
KeepsOpeningPorts h k =
    (k ≡ h)
    ⊎ ((m : OpeningMemory) × (n : OpeningMemory) × (h ≡ Held.OpeningMemory m) × (k ≡ Held.OpeningMemory n)
    × IsSameOpenOpening m n × (n.ports.items ≡ m.ports.items))

-- a port and a memory of one opening are of one memory: each opening has a number of its own
abbrev pub AreOpeningsApart : Held → Held → Type 0
AreOpeningsApart (Held.OpeningMemory m) (Held.OpeningPort p) = p.opening ≡ m.opening → arc_value p.memory ≡ arc_value m.memory
AreOpeningsApart (Held.OpeningPort p) (Held.OpeningPort q) = q.opening ≡ p.opening → arc_value q.memory ≡ arc_value p.memory
AreOpeningsApart _ _ = Unit {0}

-- two ports of one opening meet
abbrev pub MeetOpeningPorts : Held → Held → Held → Held → Type 0
MeetOpeningPorts g h k l =
    (a : OpeningPort) × (b : OpeningPort) × (c : OpeningPort) × (d : OpeningPort)
    × (g ≡ Held.OpeningPort a) × (h ≡ Held.OpeningPort b) × (k ≡ Held.OpeningPort c) × (l ≡ Held.OpeningPort d)
    × (b.opening ≡ a.opening) × IsSameOpeningReference a c × IsSameOpeningReference b d × Meets a.port b.port c.port d.port

-- why two don't meet: one is no port, or they are of two openings
abbrev pub MayNotMeetOpening : Held → Held → ℕ → Type 0
MayNotMeetOpening g h code =
    (HoldsNoOpeningPort g × (code ≡ 17))
    ⊎ (HoldsNoOpeningPort h × (code ≡ 17))
    ⊎ ((a : OpeningPort) × (b : OpeningPort) × (g ≡ Held.OpeningPort a) × (h ≡ Held.OpeningPort b)
    × (b.opening ≡ a.opening → ⊥) × (code ≡ 20))

-- two ports meet, or both are as they were
abbrev pub MeetsOpening : Held → Held → ℕ → Held → Held → Type 0
MeetsOpening g h code k l = ((code ≡ 0) × MeetOpeningPorts g h k l) ⊎ (MayNotMeetOpening g h code × (k ≡ g) × (l ≡ h))

-- the closed memory is what an open one held, which holds all its ports, `front` and `last`
abbrev pub IsClosedOpening : OpeningMemory → Closed → Type 0
IsClosedOpening m closed =
    (front : List PortView) × (last : PortView) × (m.ports.items ≡ front ++ last ∷ []) × (length m.ports.items ≡ m.count)
    × Closes (arc_value m.memory) (last ∷ front) closed

-- a memory that holds all its ports is closed
abbrev pub ClosesOpening : Held → Held → Type 0
ClosesOpening h k = (m : OpeningMemory) × (closed : Closed) × (h ≡ Held.OpeningMemory m) × (k ≡ Held.Closed closed)
    × IsClosedOpening m closed

-- the memory doesn't hold all its ports, or holds none
abbrev pub IsOpeningAway : OpeningMemory → Type 0
IsOpeningAway m = (length m.ports.items ≡ 0) ⊎ (length m.ports.items ≡ m.count → ⊥)

-- why a memory stays open: there is none, or a port wasn't returned, or all were and another handle still references the memory
abbrev pub MayNotCloseOpening : Held → ℕ → Type 0
MayNotCloseOpening h code =
    (HoldsNoOpening h × (code ≡ 17))
    ⊎ ((m : OpeningMemory) × (h ≡ Held.OpeningMemory m) × (code ≡ 22) × IsOpeningAway m)
    ⊎ ((m : OpeningMemory) × (h ≡ Held.OpeningMemory m) × (code ≡ 24) × (length m.ports.items ≡ m.count))

-- when an allocation is refused, the contents are lost of a memory that held all its ports
abbrev pub MayLose : Held → Type 0
MayLose h = (m : OpeningMemory) × (h ≡ Held.OpeningMemory m) × (length m.ports.items ≡ m.count)

-- the values of a closed memory are copied when there is room for just as many, and otherwise the room is as it was
abbrev pub CopiesValues : Held → List ℕ → ℕ → List ℕ → Type 0
CopiesValues h before code after =
    ((closed : Closed) × (h ≡ Held.Closed closed) × (code ≡ 0) × (after ≡ closed.values.items))
    ⊎ (HoldsNoClosed h × (code ≡ 17) × (after ≡ before))
    ⊎ ((closed : Closed) × (h ≡ Held.Closed closed) × (length closed.values.items ≡ length before → ⊥) × (code ≡ 19) × (after ≡ before))
