-- What the calls of single openings leave of a handle.
use Rattle.std.specs.Prelude.{ℕ, ◌≡◌, ◌⊎◌, List}
use Rattle.std.specs.declared.option.Option.{Option}
use Rattle.std.specs.declared.option.Option.TheVariants.{None, Some}
use Rattle.partial_memory.specs.Ports.{PortView}
use Rattle.partial_door.specs.declared.held.Held.{Held}
use Rattle.partial_words.specs.Layout.{Layout}
use Rattle.partial_door.specs.OpeningCalls.{AtOpeningPort}
use Rattle.partial_door.specs.OpeningMemories.{ClosesOpening, CopiesValues, GivesOpeningPort, HoldsOpened, HoldsReopened, MayLose, MayNotCloseOpening, MayNotGiveOpening, MayNotOpenWith, MayNotReopenWith, MayNotTakeOpening, MeetsOpening, KeepsOpeningPorts, TakesOpeningPort}

-- a call of a port on a handle: when it holds nothing the number is 17, and the caller's answer stays
abbrev pub AtOpeningHandle : Type 0 → (PortView → ℕ → PortView → Type 0) → Option Held → ℕ → Option Held → Type 0
AtOpeningHandle stays done before code after =
    ((before ≡ None) × (after ≡ None) × (code ≡ 17) × stays)
    ⊎ ((h : Held) × (k : Held) × (before ≡ Some h) × (after ≡ Some k) × AtOpeningPort stays done h code k)

-- an opening into a handle: one that holds something is as it was, and so is one for which nothing opened
abbrev pub OpensAt : ℕ → Layout → List ℕ → ℕ → Option Held → ℕ → Option Held → Type 0
OpensAt opening z initial ports before code after =
    ((h : Held) × (before ≡ Some h) × (after ≡ Some h) × (code ≡ 18))
    ⊎ ((h : Held) × (before ≡ None) × (after ≡ Some h) × (code ≡ 0) × HoldsOpened opening z initial ports h)
    ⊎ ((before ≡ None) × (after ≡ None) × MayNotOpenWith z ports code)

-- an opening of a closed memory's values into a handle likewise: one that holds something comes first, then a handle of no closed memory
abbrev pub ReopensAt : ℕ → Option Held → Layout → ℕ → Option Held → ℕ → Option Held → Type 0
ReopensAt opening closed z ports before code after =
    ((h : Held) × (before ≡ Some h) × (after ≡ Some h) × (code ≡ 18))
    ⊎ ((before ≡ None) × (after ≡ None) × (closed ≡ None) × (code ≡ 17))
    ⊎ ((c : Held) × (h : Held) × (before ≡ None) × (after ≡ Some h) × (closed ≡ Some c) × (code ≡ 0) × HoldsReopened opening c z ports h)
    ⊎ ((c : Held) × (before ≡ None) × (after ≡ None) × (closed ≡ Some c) × MayNotReopenWith c z ports code)

-- why a port isn't taken out of a memory into a handle: that holds something, or nothing is there to take it out of, or no port is
abbrev pub MayNotTakeOpeningAt : Option Held → Option Held → ℕ → Type 0
MayNotTakeOpeningAt memory port code =
    ((p : Held) × (port ≡ Some p) × (code ≡ 18))
    ⊎ ((port ≡ None) × (memory ≡ None) × (code ≡ 17))
    ⊎ ((h : Held) × (port ≡ None) × (memory ≡ Some h) × MayNotTakeOpening h code)

-- a port is taken out of a memory into an empty handle, and otherwise both are as they were
abbrev pub TakesOpeningAt : Option Held → Option Held → ℕ → Option Held → Option Held → Type 0
TakesOpeningAt memory port code memory' port' =
    ((h : Held) × (k : Held) × (p : Held) × (memory ≡ Some h) × (port ≡ None) × (memory' ≡ Some k) × (port' ≡ Some p) × (code ≡ 0)
    × TakesOpeningPort h p k)
    ⊎ ((memory' ≡ memory) × (port' ≡ port) × MayNotTakeOpeningAt memory port code)

-- a port is returned and leaves its handle empty, or both are as they were
abbrev pub GivesOpeningAt : Option Held → Option Held → ℕ → Option Held → Option Held → Type 0
GivesOpeningAt memory port code memory' port' =
    ((h : Held) × (k : Held) × (p : Held) × (memory ≡ Some h) × (port ≡ Some p) × (memory' ≡ Some k) × (port' ≡ None) × (code ≡ 0)
    × GivesOpeningPort h p k)
    ⊎ ((h : Held) × (k : Held) × (p : Held) × (memory ≡ Some h) × (port ≡ Some p) × (memory' ≡ Some k) × (port' ≡ port)
    × KeepsOpeningPorts h k × MayNotGiveOpening h p code)
    ⊎ (((memory ≡ None) ⊎ (port ≡ None)) × (memory' ≡ memory) × (port' ≡ port) × (code ≡ 17))

-- two ports meet, and an empty handle lets none meet
abbrev pub MeetsOpeningHandles : Option Held → Option Held → ℕ → Option Held → Option Held → Type 0
MeetsOpeningHandles first second code first' second' =
    ((g : Held) × (h : Held) × (k : Held) × (l : Held) × (first ≡ Some g) × (second ≡ Some h) × (first' ≡ Some k) × (second' ≡ Some l)
    × MeetsOpening g h code k l)
    ⊎ (((first ≡ None) ⊎ (second ≡ None)) × (first' ≡ first) × (second' ≡ second) × (code ≡ 17))

-- a memory is closed in its handle, or stays open, or is lost and leaves the handle empty
abbrev pub ClosesOpeningHandle : Option Held → ℕ → Option Held → Type 0
ClosesOpeningHandle before code after =
    ((before ≡ None) × (after ≡ None) × (code ≡ 17))
    ⊎ ((h : Held) × (k : Held) × (before ≡ Some h) × (after ≡ Some k) × (code ≡ 0) × ClosesOpening h k)
    ⊎ ((h : Held) × (before ≡ Some h) × (after ≡ before) × MayNotCloseOpening h code)
    ⊎ ((h : Held) × (before ≡ Some h) × (after ≡ None) × (code ≡ 6) × MayLose h)

-- the values are copied when a closed memory is held, and otherwise the caller's stay
abbrev pub CopiesAt : Option Held → List ℕ → ℕ → List ℕ → Type 0
CopiesAt held before code after =
    ((held ≡ None) × (code ≡ 17) × (after ≡ before))
    ⊎ ((h : Held) × (held ≡ Some h) × CopiesValues h before code after)
