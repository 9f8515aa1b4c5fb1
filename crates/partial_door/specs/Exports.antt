-- What the calls of long-lived memories leave of a handle.
use Rattle.std.specs.Prelude.{ℕ, ◌≡◌, ◌⊎◌, List, length}
use Rattle.std.specs.declared.option.Option.{Option}
use Rattle.std.specs.declared.option.Option.TheVariants.{None, Some}
use Rattle.partial_long_lived.specs.declared.options.Options.{Options}
use Rattle.partial_long_lived.specs.Ports.{PortView}
use Rattle.partial_door.specs.declared.held.Held.{Held}
use Rattle.partial_door.specs.Calls.{AtPort}
use Rattle.partial_door.specs.Memories.{ClosesAt, GivesPort, HoldsNew, KeepsAll, MayNotBeNew, MayNotClose, MayNotGive, MayNotTake, MeetsAt, KeepsPorts, TakesPort}

-- a call of a port on a handle: when it holds nothing the number is 17, and the caller's answer stays
abbrev pub AtHandle : Type 0 → (PortView → ℕ → PortView → Type 0) → Option Held → ℕ → Option Held → Type 0
AtHandle stays done before code after =
    ((before ≡ None) × (after ≡ None) × (code ≡ 17) × stays)
    ⊎ ((h : Held) × (k : Held) × (before ≡ Some h) × (after ≡ Some k) × AtPort stays done h code k)

-- an opening into a handle: one that holds something is as it was, and so is one for which nothing opened
abbrev pub OpensNewAt : ℕ → List ℕ → ℕ → Options → Option Held → ℕ → Option Held → Type 0
OpensNewAt number initial ports o before code after =
    ((h : Held) × (before ≡ Some h) × (after ≡ Some h) × (code ≡ 18))
    ⊎ ((h : Held) × (before ≡ None) × (after ≡ Some h) × (code ≡ 0) × HoldsNew number initial ports o h)
    ⊎ ((before ≡ None) × (after ≡ None) × MayNotBeNew initial ports o code)

-- why a port isn't taken out of a memory into a handle: that holds something, or nothing is there to take it out of, or no port is
abbrev pub MayNotTakeAt : Option Held → Option Held → ℕ → Type 0
MayNotTakeAt memory port code =
    ((p : Held) × (port ≡ Some p) × (code ≡ 18))
    ⊎ ((port ≡ None) × (memory ≡ None) × (code ≡ 17))
    ⊎ ((h : Held) × (port ≡ None) × (memory ≡ Some h) × MayNotTake h code)

-- a port is taken out of a memory into an empty handle, and otherwise both are as they were
abbrev pub TakesAt : Option Held → Option Held → ℕ → Option Held → Option Held → Type 0
TakesAt memory port code memory' port' =
    ((h : Held) × (k : Held) × (p : Held) × (memory ≡ Some h) × (port ≡ None) × (memory' ≡ Some k) × (port' ≡ Some p) × (code ≡ 0)
    × TakesPort h p k)
    ⊎ ((memory' ≡ memory) × (port' ≡ port) × MayNotTakeAt memory port code)

-- a port is returned and leaves its handle empty, or both are as they were
abbrev pub GivesAt : Option Held → Option Held → ℕ → Option Held → Option Held → Type 0
GivesAt memory port code memory' port' =
    ((h : Held) × (k : Held) × (p : Held) × (memory ≡ Some h) × (port ≡ Some p) × (memory' ≡ Some k) × (port' ≡ None) × (code ≡ 0)
    × GivesPort h p k)
    ⊎ ((h : Held) × (k : Held) × (p : Held) × (memory ≡ Some h) × (port ≡ Some p) × (memory' ≡ Some k) × (port' ≡ port)
    × KeepsPorts h k × MayNotGive h p code)
    ⊎ (((memory ≡ None) ⊎ (port ≡ None)) × (memory' ≡ memory) × (port' ≡ port) × (code ≡ 17))

-- a memory is closed and leaves its handle empty, or both it and the caller's values are as they were, or an allocation was refused, and the
-- handle holds the memory with all its ports for a later close
abbrev pub ClosesHandle : Option Held → List ℕ → ℕ → Option Held → List ℕ → Type 0
ClosesHandle before room code after values =
    ((before ≡ None) × (after ≡ None) × (code ≡ 17) × (values ≡ room))
    ⊎ ((h : Held) × (before ≡ Some h) × (after ≡ None) × (code ≡ 0) × ClosesAt h values)
    ⊎ ((h : Held) × (before ≡ Some h) × (after ≡ before) × (values ≡ room) × MayNotClose h (length room) code)
    ⊎ ((h : Held) × (k : Held) × (before ≡ Some h) × (after ≡ Some k) × (values ≡ room) × (code ≡ 6) × KeepsAll h k)

-- two ports meet, and an empty handle lets none meet
abbrev pub MeetsHandles : Option Held → Option Held → ℕ → Option Held → Option Held → Type 0
MeetsHandles first second code first' second' =
    ((g : Held) × (h : Held) × (k : Held) × (l : Held) × (first ≡ Some g) × (second ≡ Some h) × (first' ≡ Some k) × (second' ≡ Some l)
    × MeetsAt g h code k l)
    ⊎ (((first ≡ None) ⊎ (second ≡ None)) × (first' ≡ first) × (second' ≡ second) × (code ≡ 17))
