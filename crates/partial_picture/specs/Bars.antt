-- Where bars are drawn, and which.
use Rattle.std.specs.Prelude.{ℕ, ◌≤◌, ◌-◌, ◌==◌, nat_lt, nat_le, min, max, Bool, ◌&&◌, ◌||◌, List, Option, Some, None, if◌then◌else◌}
use Rattle.std.specs.Borrow.{Bor}
use Rattle.std.specs.List.{filter_map}
use Rattle.std.specs.Option.{option_map}
use Rattle.partial_model.specs.declared.call.Called.{Called}
use Rattle.partial_picture.specs.Made.{CallSpan, made_seen}
use Rattle.partial_picture.specs.declared.picture.Bar.{Bar}
use Rattle.partial_picture.specs.declared.spans.Made.{Made}
use Rattle.partial_picture.specs.declared.window.Span.{Span}

-- the bar is among so many marks, or between two of them, before the first or after the last one
abbrev pub BarStandsIn : ℕ → Bar → Type 0
BarStandsIn marks b = (b.marks.first ≤ marks) × (b.marks.behind ≤ marks)

-- a bar: its call, its marks, and whether the call has no step before the window and none after it
pub record BarView : Type 0 where
  pub called : Called
  pub marks : Span
  pub begins : Bool
  pub ends : Bool

-- what a bar shows
abbrev pub bar_seen : Bar → BarView
bar_seen b = record { called = b.called.now; marks = b.marks; begins = b.begins; ends = b.ends }

-- the step is in the window
abbrev pub is_in : Span → ℕ → Bool
is_in window step = nat_le window.first step && nat_lt step window.behind

-- A call has a bar when it has a step in the window or, without any, is drawn before one of its steps. A window that ends with
-- the replay, of so many steps, also has the calls after the last step.
abbrev pub has_bar : Span → ℕ → Span → Bool
has_bar window steps s = if nat_le s.behind s.first then is_in window s.first || s.first == steps && window.behind == steps
    else nat_lt s.first window.behind && nat_lt window.first s.behind

-- the marks of a call's steps in the window
abbrev pub marks_of : Span → Span → Span
marks_of window s = record { first = max s.first window.first - window.first; behind = min s.behind window.behind - window.first }

-- the bar of a call in the window, when it has one
abbrev pub bar_at : Span → ℕ → CallSpan → Option BarView
bar_at window steps c = if has_bar window steps c.span then Some (record {
  called = c.called;
  marks = marks_of window c.span;
  begins = nat_le window.first c.span.first;
  ends = nat_le c.span.behind window.behind;
}) else None

-- the bars of these calls in the window of a replay of so many steps
abbrev pub bars_in : Span → ℕ → List CallSpan → List BarView
bars_in window steps calls = filter_map (bar_at window steps) calls

-- a bar of the code, with a reference to its call
abbrev pub bar_with : Bor Called → BarView → Bar
bar_with called b = record { called = called; marks = b.marks; begins = b.begins; ends = b.ends }

-- the bar of a call of the code
abbrev pub bar_of : Span → ℕ → Made → Option Bar
bar_of window steps m = option_map (bar_with m.called) (bar_at window steps (made_seen m))
