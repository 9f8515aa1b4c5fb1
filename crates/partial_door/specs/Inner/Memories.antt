-- What the private functions of the door leave of a long-lived memory: one that has just opened, and one that isn't closed.
use Rattle.std.specs.Prelude.{ℕ, ◌≡◌, ◌⊎◌, List, length}
use Rattle.std.specs.Arc.{arc_value}
use Rattle.partial_long_lived.specs.Ports.{MemoryView, PortView}
use Rattle.partial_door.specs.declared.held.OpenMemory.{OpenMemory}
use Rattle.partial_door.specs.declared.held.Held.{Held}
use Rattle.partial_door.specs.declared.memories.Unready.{Unready}
use Rattle.partial_door.specs.declared.memories.Unready.TheVariants.{Away, Shared}
use Rattle.partial_door.specs.Memories.{IsAway, KeepsAll, MayNotClose}

-- what is held is this memory, which holds these ports
abbrev pub IsOpenOf : ℕ → ℕ → MemoryView → List PortView → Held → Type 0
IsOpenOf number count v ports h =
    (m : OpenMemory) × (h ≡ Held.Memory m) × (m.number ≡ number) × (m.count ≡ count) × (arc_value m.memory ≡ v)
    × (m.ports.items ≡ ports)

-- a memory that isn't taken apart is as it was, and it is shared only with all its ports
abbrev pub IsUnready : OpenMemory → Unready → Type 0
IsUnready m (Away n) = (n ≡ m) × IsAway m
IsUnready m (Shared n) = (n ≡ m) × (length m.ports.items ≡ m.count)

-- what is held stays for its cause, or an allocation was refused, and it is the memory with all its ports
abbrev pub IsUnclosed : Held → Held → ℕ → ℕ → Type 0
IsUnclosed h k room code = ((k ≡ h) × MayNotClose h room code) ⊎ ((code ≡ 6) × KeepsAll h k)
