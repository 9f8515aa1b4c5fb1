-- What a trace keeps of the steps that were made.
use Rattle.std.specs.Prelude.{ℕ, ◌+◌, List, [], ◌∷◌, Option, Some, None}
use Rattle.partial_words.specs.declared.step.Event.{Event}
use Rattle.partial_words.specs.declared.step.Step.TheVariants.{Load, Store}
use Rattle.partial_words.specs.declared.trace.Kept.{Kept}

-- the event of a step that is kept as it is, and none where it is the next of the others
abbrev pub event_kept : Kept → Option Event
event_kept (Kept.Load port word answer) = Some (record { port = port; step = Load word; answer = answer })
event_kept (Kept.Store port word value) = Some (record { port = port; step = Store word value; answer = 0 })
event_kept Kept.Other = None

-- the events in order
abbrev pub kept_events : List Kept → List Event → List Event
kept_events [] others = []
kept_events (Kept.Load port word answer ∷ kept) others = record { port = port; step = Load word; answer = answer } ∷ kept_events kept others
kept_events (Kept.Store port word value ∷ kept) others = record { port = port; step = Store word value; answer = 0 } ∷ kept_events kept others
kept_events (Kept.Other ∷ kept) [] = []
kept_events (Kept.Other ∷ kept) (e ∷ others) = e ∷ kept_events kept others

-- how many of the steps are others
abbrev pub others_in : List Kept → ℕ
others_in [] = 0
others_in (Kept.Other ∷ kept) = others_in kept + 1
others_in (Kept.Load port word answer ∷ kept) = others_in kept
others_in (Kept.Store port word value ∷ kept) = others_in kept
