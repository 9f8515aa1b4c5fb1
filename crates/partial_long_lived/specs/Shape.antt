-- The sizes of a memory as its code has them.
use Rattle.std.specs.Prelude.{◌≡◌, []}
use Rattle.partial_model.specs.declared.history.Opening.{Opening}
use Rattle.partial_epochs.specs.Layout.{Plan}
use Rattle.partial_long_lived.specs.declared.rule.About.{About}
use Rattle.partial_long_lived.specs.declared.shape.Shape.{Shape}
use Rattle.partial_long_lived.specs.Rule.{plan_of}

-- an opening of which nothing is asked
abbrev pub bare : Opening
bare = record { values = []; first = 0 }

-- the plan of that shape, with an opening
abbrev pub shape_plan : Shape → Opening → Plan
shape_plan s o = record { sizes = s.sizes; ports = s.ports; arenas = s.arenas; opening = o; limit = s.limit; announces = s.announces }

-- the memory has that shape
abbrev pub IsShapeOf : Shape → About → Type 0
IsShapeOf s a = plan_of a ≡ shape_plan s a.opening
