-- The marks of steps.
use Rattle.std.specs.Prelude.{ℕ, ◌==◌, List, All, Contains, map, slice_range, if◌then◌else◌}
use Rattle.std.specs.List.Sorted.{IsStrictlyIncreasing}
use Rattle.partial_words.specs.declared.step.Event.{Event}
use Rattle.partial_words.specs.declared.step.Step.{Step}
use Rattle.partial_words.specs.Step.{word_of}
use Rattle.partial_picture.specs.declared.picture.Mark.{Mark}
use Rattle.partial_picture.specs.declared.picture.Shape.{Shape}
use Rattle.partial_picture.specs.declared.window.Span.{Span}

-- the shape of a step with an answer
abbrev pub shape_of : Step → ℕ → Shape
shape_of (Step.Load w) answer = Shape.Load
shape_of (Step.Store w v) answer = Shape.Store
shape_of (Step.Exchange w old new) answer = if answer == old then Shape.Won else Shape.Lost
shape_of (Step.Add w v) answer = Shape.Add

-- the mark of an event
abbrev pub mark_of : Event → Mark
mark_of e = record { event = e; shape = shape_of e.step e.answer }

-- the marks of the events at these places, in order
abbrev pub marks_in : Span → List Event → List Mark
marks_in window trace = map mark_of (slice_range trace window.first window.behind)

-- the words that the steps of these marks touch, in the order of the marks
abbrev pub touched_by : List Mark → List ℕ
touched_by marks = map (λ m. word_of m.event.step) marks

-- the numbers of the words that the marks touch, each once, rising
pub record AreTouched (marks : List Mark) (words : List ℕ) : Type 0 where
  pub each : All (Contains words) (touched_by marks)
  pub no_other : All (Contains (touched_by marks)) words
  pub rising : IsStrictlyIncreasing words
