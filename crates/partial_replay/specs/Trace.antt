-- What a trace says: which steps have won, the entries that they add to the history, and when each event was.
use Rattle.std.specs.Prelude.{ℕ, ◌+◌, length, filter, ◌==◌, Bool, false, List, [], ◌∷◌, map, nat_lt, Option, Some, None, if◌then◌else◌}
use Rattle.partial_model.specs.declared.history.Applied.{Applied}
use Rattle.partial_words.specs.declared.step.Step.{Step}
use Rattle.partial_words.specs.declared.step.Step.TheVariants.{Exchange}
use Rattle.partial_words.specs.declared.step.Event.{Event}
use Rattle.partial_words.specs.Step.{word_of}

-- the step is an exchange of one of the m component words, and has won with this answer
abbrev pub is_won : ℕ → Step → ℕ → Bool
is_won m (Exchange w old new) a = if nat_lt w m then a == old else false
is_won m _ a = false

-- the word that an exchange would set
abbrev pub new_of : Step → ℕ
new_of (Exchange w old new) = new
new_of _ = 0

-- the entry that an event adds to the history, when the record at a reference has that value: a won exchange adds one
abbrev pub event_entry : ℕ → (ℕ → ℕ) → Event → Option Applied
event_entry m value e = if is_won m e.step e.answer then Some
    (record { port = e.port; component = word_of e.step; value = value (new_of e.step); stamp = new_of e.step }) else None

-- whose events they are, in order
abbrev pub ports_of : List Event → List ℕ
ports_of trace = map (λ e. e.port) trace

-- how many of them are port q's
abbrev pub events_in : ℕ → List ℕ → ℕ
events_in q ports = length (filter (λ p. p == q) ports)

-- an event, and how long the history was before it and is after it
pub record Moment : Type 0 where
  pub event : Event
  pub before : ℕ
  pub behind : ℕ

-- how many entries an event adds to the history
abbrev pub adds : ℕ → Event → ℕ
adds m e = if is_won m e.step e.answer then 1 else 0

-- the moments of a trace, when the history had n entries before it
abbrev pub moments_from : ℕ → ℕ → List Event → List Moment
moments_from m n [] = []
moments_from m n (e ∷ es) = record { event = e; before = n; behind = n + adds m e } ∷ moments_from m (n + adds m e) es

-- the moments of port q's events
abbrev pub moments_by : ℕ → ℕ → List Event → List Moment
moments_by m q trace = filter (λ x. x.event.port == q) (moments_from m 0 trace)

-- how long the history is after the last of these moments, or with n entries when there is none
abbrev pub last_behind : ℕ → List Moment → ℕ
last_behind n [] = n
last_behind n (x ∷ xs) = last_behind x.behind xs
