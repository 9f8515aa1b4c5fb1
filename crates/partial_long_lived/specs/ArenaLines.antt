-- Where the arenas begin.
use Rattle.std.specs.Prelude.{ℕ, ◌≡◌, ◌+◌, ◌%◌, ◌<◌}
use Rattle.partial_epochs.specs.Layout.{base}
use Rattle.partial_long_lived.specs.Options.{IsShapeFor, most_slots}
use Rattle.partial_long_lived.specs.Shape.{bare, shape_plan}
use Rattle.partial_long_lived.specs.declared.options.Options.{Options}
use Rattle.partial_long_lived.specs.declared.shape.Shape.{Shape}

-- each arena begins two words before a number of 16 words, unless an arena has the most slots that there may be
abbrev pub ArenasBeginLines : Type 0
ArenasBeginLines = (count ports : ℕ) (o : Options) (s : Shape) → IsShapeFor count ports o s → s.sizes.slots < most_slots → (x : ℕ) →
    (base (shape_plan s bare) x + 2) % 16 ≡ 0
