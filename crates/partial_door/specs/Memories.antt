-- What the calls at the handle of a long-lived memory leave: opening, taking ports out and giving them back, and closing.
use Rattle.std.specs.Prelude.{ℕ, ◌≡◌, ◌⊎◌, ◌+◌, ◌*◌, ◌<◌, ◌≤◌, ◌++◌, ◌==◌, List, [], ◌∷◌, length, Some, None, if◌then◌else◌}
use Rattle.std.specs.Arc.{arc_value}
use Rattle.partial_words.specs.Layout.{first_free, pool_base}
use Rattle.partial_long_lived.specs.declared.options.Options.{Options}
use Rattle.partial_long_lived.specs.declared.open_error.OpenError.{OpenError}
use Rattle.partial_long_lived.specs.Rule.{newcomers}
use Rattle.partial_long_lived.specs.Options.{MayNotOpen, announces_for, claimed_pool, layout_for, open_code}
use Rattle.partial_long_lived.specs.Ports.{MemoryView, PortView, new_ports}
use Rattle.partial_long_lived.specs.Calls.{MeetByTheRule, Meets}
use Rattle.partial_long_lived.specs.Closing.{ClosesLawfully}
use Rattle.partial_door.specs.declared.answers.ArenaSizes.{ArenaSizes}
use Rattle.partial_door.specs.declared.held.OpenMemory.{OpenMemory}
use Rattle.partial_door.specs.declared.held.OwnedPort.{OwnedPort}
use Rattle.partial_door.specs.declared.held.ClosingMemory.{ClosingMemory}
use Rattle.partial_door.specs.declared.held.Held.{Held}
use Rattle.partial_door.specs.Calls.{HoldsNoPort, IsSameReference}

-- no open long-lived memory is held
abbrev pub HoldsNoMemory : Held → Type 0
HoldsNoMemory (Held.Memory m) = ⊥
HoldsNoMemory _ = Unit {0}

-- no long-lived memory is held, open or about to be closed
abbrev pub HoldsNeither : Held → Type 0
HoldsNeither (Held.Memory m) = ⊥
HoldsNeither (Held.Closing c) = ⊥
HoldsNeither _ = Unit {0}

-- the options with these sizes of an arena: no pool words leave their number open
abbrev pub options_of : ArenaSizes → Options
options_of a = record { lists = a.lists; pool = if a.pool == 0 then None else Some a.pool; announce = None }

-- a memory that has just opened with these values, so many ports, and these options, and its ports
pub record IsNewMemory (initial : List ℕ) (ports : ℕ) (o : Options) (v : MemoryView) (all : List PortView) : Type 0 where
  pub sizes : v.about.sizes ≡ layout_for (length initial) ports o
  pub limit : v.about.limit ≡ first_free v.about.sizes + claimed_pool (length initial) ports o
  pub announces : v.about.announces ≡ announces_for (length initial) ports o
  pub many : (v.about.ports ≡ ports) × (v.about.arenas ≡ 2 * ports)
  pub values : v.about.opening.values ≡ initial
  pub first : v.about.opening.first ≡ pool_base v.about.sizes
  pub held : all ≡ new_ports v.table (newcomers v.about 0 ports)

-- that is what is held, with all its ports
abbrev pub HoldsNew : ℕ → List ℕ → ℕ → Options → Held → Type 0
HoldsNew number initial ports o h =
    (m : OpenMemory) × (h ≡ Held.Memory m) × (m.number ≡ number) × (m.count ≡ ports)
    × IsNewMemory initial ports o (arc_value m.memory) m.ports.items

-- why no new memory is held: the cause of its opening, or it has opened, and an allocation for its handle was refused
abbrev pub MayNotBeNew : List ℕ → ℕ → Options → ℕ → Type 0
MayNotBeNew initial ports o code =
    ((e : OpenError) × (code ≡ open_code e) × MayNotOpen (length initial) ports o e)
    ⊎ ((v : MemoryView) × (all : List PortView) × IsNewMemory initial ports o v all × (code ≡ 6))

-- an open memory, apart from the ports that it holds
pub record IsSameMemory (m n : OpenMemory) : Type 0 where
  pub number : n.number ≡ m.number
  pub count : n.count ≡ m.count
  pub memory : arc_value n.memory ≡ arc_value m.memory

-- the last port that the memory holds is taken out
abbrev pub TakesPort : Held → Held → Held → Type 0
TakesPort h taken k =
    (m : OpenMemory) × (n : OpenMemory) × (p : OwnedPort) × (h ≡ Held.Memory m) × (k ≡ Held.Memory n) × (taken ≡ Held.Port p)
    × IsSameMemory m n × (m.ports.items ≡ n.ports.items ++ p.port ∷ [])
    × (p.number ≡ m.number) × (arc_value p.memory ≡ arc_value m.memory)

-- why no port is taken out: there is no open memory, or it holds no port, or it holds one and an allocation was refused
abbrev pub MayNotTake : Held → ℕ → Type 0
MayNotTake h code =
    (HoldsNoMemory h × (code ≡ 17))
    ⊎ ((m : OpenMemory) × (h ≡ Held.Memory m) × (length m.ports.items ≡ 0) × (code ≡ 21))
    ⊎ ((m : OpenMemory) × (h ≡ Held.Memory m) × (0 < length m.ports.items) × (code ≡ 6))

-- a port is returned to its memory
abbrev pub GivesPort : Held → Held → Held → Type 0
GivesPort h given k =
    (m : OpenMemory) × (n : OpenMemory) × (p : OwnedPort) × (h ≡ Held.Memory m) × (k ≡ Held.Memory n) × (given ≡ Held.Port p)
    × (p.number ≡ m.number) × IsSameMemory m n × (n.ports.items ≡ m.ports.items ++ p.port ∷ [])

-- why a port isn't returned: there is no open memory or no port, or the two are of two memories, or an allocation was refused
abbrev pub MayNotGive : Held → Held → ℕ → Type 0
MayNotGive h given code =
    (HoldsNoMemory h × (code ≡ 17))
    ⊎ (HoldsNoPort given × (code ≡ 17))
    ⊎ ((m : OpenMemory) × (p : OwnedPort) × (h ≡ Held.Memory m) × (given ≡ Held.Port p) × (p.number ≡ m.number → ⊥) × (code ≡ 20))
    ⊎ ((m : OpenMemory) × (p : OwnedPort) × (h ≡ Held.Memory m) × (given ≡ Held.Port p) × (p.number ≡ m.number) × (code ≡ 6))

-- the memory holds the same ports as before
abbrev pub KeepsPorts : Held → Held → Type 0
KeepsPorts h k =
    (k ≡ h)
    ⊎ ((m : OpenMemory) × (n : OpenMemory) × (h ≡ Held.Memory m) × (k ≡ Held.Memory n) × IsSameMemory m n
    × (n.ports.items ≡ m.ports.items))

-- a port and a memory of one number are of one memory: each memory has a number of its own
abbrev pub AreHeldApart : Held → Held → Type 0
AreHeldApart (Held.Memory m) (Held.Port p) = p.number ≡ m.number → arc_value p.memory ≡ arc_value m.memory
AreHeldApart _ _ = Unit {0}

-- what is held may be closed: an open memory with all its ports, and no other reference of it, or one whose close was refused
abbrev pub IsReadyToClose : Held → ClosingMemory → Type 0
IsReadyToClose (Held.Memory m) c =
    (length m.ports.items ≡ m.count) × (m.ports.items ≡ c.rest.items ++ c.port ∷ []) × (c.memory ≡ arc_value m.memory)
IsReadyToClose (Held.Closing d) c = c ≡ d
IsReadyToClose _ c = ⊥

-- it is closed with all its ports, and these are its values, after the history of a lawful state
abbrev pub ClosesAt : Held → List ℕ → Type 0
ClosesAt h values = (c : ClosingMemory) × IsReadyToClose h c × ClosesLawfully c.memory (c.port ∷ c.rest.items) values

-- a memory that was to be closed, with its ports
pub record IsSameClosing (c d : ClosingMemory) : Type 0 where
  pub memory : d.memory ≡ c.memory
  pub port : d.port ≡ c.port
  pub rest : d.rest.items ≡ c.rest.items

-- an allocation was refused: what is held is the memory with all its ports, for a later close
abbrev pub KeepsAll : Held → Held → Type 0
KeepsAll h k = (c : ClosingMemory) × (d : ClosingMemory) × IsReadyToClose h c × IsSameClosing c d × (k ≡ Held.Closing d)

-- the room isn't that of the memory's values
abbrev pub IsOtherRoom : Held → ℕ → Type 0
IsOtherRoom (Held.Memory m) room = length (arc_value m.memory).about.opening.values ≡ room → ⊥
IsOtherRoom (Held.Closing c) room = length c.memory.about.opening.values ≡ room → ⊥
IsOtherRoom _ room = ⊥

-- the memory doesn't hold all its ports, or holds none
abbrev pub IsAway : OpenMemory → Type 0
IsAway m = (length m.ports.items ≡ 0) ⊎ (length m.ports.items ≡ m.count → ⊥)

-- why a memory isn't closed, and is as it was: there is none, or the room is another one, or a port wasn't returned, or all were and
-- another handle still references the memory
abbrev pub MayNotClose : Held → ℕ → ℕ → Type 0
MayNotClose h room code =
    (HoldsNeither h × (code ≡ 17))
    ⊎ (IsOtherRoom h room × (code ≡ 19))
    ⊎ ((m : OpenMemory) × (h ≡ Held.Memory m) × (code ≡ 22) × IsAway m)
    ⊎ ((m : OpenMemory) × (h ≡ Held.Memory m) × (code ≡ 24) × (length m.ports.items ≡ m.count))

-- two ports with one number are of one memory
abbrev pub ArePortsApart : Held → Held → Type 0
ArePortsApart (Held.Port p) (Held.Port q) = q.number ≡ p.number → arc_value q.memory ≡ arc_value p.memory
ArePortsApart _ _ = Unit {0}

-- two ports of one memory meet, by the rule of its words, in so many steps at most
abbrev pub MeetPorts : Held → Held → Held → Held → Type 0
MeetPorts g h k l =
    (a : OwnedPort) × (b : OwnedPort) × (c : OwnedPort) × (d : OwnedPort)
    × (g ≡ Held.Port a) × (h ≡ Held.Port b) × (k ≡ Held.Port c) × (l ≡ Held.Port d)
    × (b.number ≡ a.number) × IsSameReference a c × IsSameReference b d × Meets a.port b.port c.port d.port
    × MeetByTheRule c.port d.port × (c.port.steps + d.port.steps ≤ a.port.steps + b.port.steps + 12)

-- why two don't meet: one is no port, or they are of two memories
abbrev pub MayNotMeet : Held → Held → ℕ → Type 0
MayNotMeet g h code =
    (HoldsNoPort g × (code ≡ 17))
    ⊎ (HoldsNoPort h × (code ≡ 17))
    ⊎ ((a : OwnedPort) × (b : OwnedPort) × (g ≡ Held.Port a) × (h ≡ Held.Port b) × (b.number ≡ a.number → ⊥) × (code ≡ 20))

-- two ports meet, or both are as they were
abbrev pub MeetsAt : Held → Held → ℕ → Held → Held → Type 0
MeetsAt g h code k l = ((code ≡ 0) × MeetPorts g h k l) ⊎ (MayNotMeet g h code × (k ≡ g) × (l ≡ h))
