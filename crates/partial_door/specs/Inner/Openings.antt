-- What the private functions of the door leave: a memory that has just opened, and one that isn't closed.
use Rattle.std.specs.Prelude.{ℕ, ◌≡◌, List, length}
use Rattle.std.specs.Arc.{arc_value}
use Rattle.partial_memory.specs.Ports.{MemoryView, PortView}
use Rattle.partial_door.specs.declared.held.Held.{Held}
use Rattle.partial_door.specs.declared.held.OpeningMemory.{OpeningMemory}
use Rattle.partial_door.specs.declared.opening_memories.Kept.{Kept}
use Rattle.partial_door.specs.declared.opening_memories.Kept.TheVariants.{Away, Shared, Lost}
use Rattle.partial_door.specs.declared.opening_memories.Unclosed.{Unclosed}
use Rattle.partial_door.specs.OpeningMemories.{IsOpeningAway, MayLose, MayNotCloseOpening}

-- what is held is this memory, which holds these ports
abbrev pub IsOpeningHeld : ℕ → ℕ → MemoryView → List PortView → Held → Type 0
IsOpeningHeld opening count v ports h =
    (m : OpeningMemory) × (h ≡ Held.OpeningMemory m) × (m.opening ≡ opening) × (m.count ≡ count)
    × (arc_value m.memory ≡ v) × (m.ports.items ≡ ports)

-- when it isn't lost it is as it was, and it is shared or lost only when it holds all its ports
abbrev pub IsOpeningKept : OpeningMemory → Kept → Type 0
IsOpeningKept m (Away n) = (n ≡ m) × IsOpeningAway m
IsOpeningKept m (Shared n) = (n ≡ m) × (length m.ports.items ≡ m.count)
IsOpeningKept m Lost = length m.ports.items ≡ m.count

-- what is held stays for its cause, or it is lost
abbrev pub IsUnclosedOpening : Held → Held → Unclosed → Type 0
IsUnclosedOpening h k (Unclosed.Kept code) = (k ≡ h) × MayNotCloseOpening h code
IsUnclosedOpening h k Unclosed.Lost = MayLose h
