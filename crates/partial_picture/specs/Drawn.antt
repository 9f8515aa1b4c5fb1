-- Which steps of a replay are drawn.
use Rattle.std.specs.Prelude.{ℕ, ◌+◌, ◌-◌, ◌≤◌, nat_lt, not, ◌&&◌, Result, Ok, Err, if◌then◌else◌}
use Rattle.partial_picture.specs.declared.fault.PictureError.{PictureError}
use Rattle.partial_picture.specs.declared.window.Span.{Span}
use Rattle.partial_picture.specs.declared.window.Window.{Window}

-- the steps from the first one up to the one after the last, when they are 2,000 at most
abbrev pub few_of : ℕ → ℕ → Result Span PictureError
few_of first behind = if nat_lt 2000 (behind - first) then Err (PictureError.TooMany (behind - first))
    else Ok (record { first = first; behind = behind })

-- The steps of a window of a replay of so many: a window is refused that isn't from a step to the same or a later
-- one, and then one that has too many.
abbrev pub drawn_of : Window → ℕ → Result Span PictureError
drawn_of Window.Whole steps = few_of 0 steps
drawn_of (Window.Steps first last) steps = if not (nat_lt last first) && nat_lt last steps then few_of first (last + 1)
    else Err (PictureError.Window steps)

-- the steps are among so many, and at most 2,000
abbrev pub SpanHasRoom : ℕ → Span → Type 0
SpanHasRoom steps s = (s.first ≤ s.behind) × (s.behind ≤ steps) × (s.behind ≤ s.first + 2000)
