-- What a memory holds that opens again with the values of a closed one.
use Rattle.std.specs.Prelude.{ℕ, ◌≡◌, ◌-◌, ◌<◌, ◌≤◌, ◌⊎◌, List, ◌++◌, length, replicate}
use Rattle.partial_model.specs.declared.history.Applied.{Applied}
use Rattle.partial_model.specs.declared.history.Opening.{Opening}
use Rattle.partial_model.specs.History.{IsHistory, value_of}
use Rattle.partial_memory.specs.declared.error.OpenError.{OpenError}
use Rattle.partial_memory.specs.declared.error.OpenError.TheVariants.{Ports, TooSmall, OutOfMemory}
use Rattle.partial_memory.specs.Closing.{AreValues}

-- the values, and zeros after them up to m of them
abbrev pub extended_values : ℕ → List ℕ → List ℕ
extended_values m values = values ++ replicate (m - length values) 0

-- the opening with zeros for added components, m of them in all
abbrev pub with_zeros : ℕ → Opening → Opening
with_zeros m o = record { values = extended_values m o.values; first = o.first }

-- A memory that opens with `second` goes on where the history `log` of `first` ended: after each history of its own a component has the
-- value that it would have after both, one after the other, over the first opening with zeros for added components. Stamps aren't
-- continued.
abbrev pub Continues : Opening → List Applied → Opening → Type 0
Continues first log second =
    (h : List Applied) (j : ℕ) → j < length second.values
    → value_of second h j ≡ value_of (with_zeros (length second.values) first) (log ++ h) j

-- the opening goes on from the end of each history that left these values
abbrev pub ContinuesAll : List ℕ → Opening → Type 0
ContinuesAll values second =
    (o : Opening) (log : List Applied) → IsHistory o log → AreValues o log (length o.values) values → Continues o log second

-- each opening with the values of a closed memory, and zeros after them, goes on where its history ended
abbrev pub ClosedMemoriesContinue : Type 0
ClosedMemoriesContinue =
    (values : List ℕ) (m : ℕ) (second : Opening) → second.values ≡ extended_values m values → ContinuesAll values second

-- Why a memory of m components may not open with these numbers of ports and of values of a closed one: Ports when there are not 1 to 64,
-- otherwise TooSmall when there are more values than components, and OutOfMemory only when neither is so.
abbrev pub MayNotReopen : ℕ → ℕ → ℕ → OpenError → Type 0
MayNotReopen ports count m Ports = (ports ≡ 0) ⊎ (64 < ports)
MayNotReopen ports count m TooSmall = (1 ≤ ports) × (ports ≤ 64) × (m < count)
MayNotReopen ports count m OutOfMemory = (1 ≤ ports) × (ports ≤ 64) × (count ≤ m)
