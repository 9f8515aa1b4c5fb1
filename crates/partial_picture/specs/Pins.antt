-- Where the entries of the history are drawn.
use Rattle.std.specs.Prelude.{ℕ, ◌-◌, nat_lt, not, ◌&&◌, List, map, filter, Option, Some, None, if◌then◌else◌}
use Rattle.std.specs.List.{enumerate_from, filter_map, zip}
use Rattle.partial_model.specs.declared.history.Applied.{Applied}
use Rattle.partial_words.specs.declared.step.Event.{Event}
use Rattle.partial_replay.specs.Trace.{is_won}
use Rattle.partial_picture.specs.declared.picture.Pin.{Pin}
use Rattle.partial_picture.specs.declared.window.Span.{Span}

-- the steps that add an entry: the won exchanges of the m component words
abbrev pub won_steps : ℕ → List Event → List ℕ
won_steps m trace = map (λ x. x.0) (filter (λ x. is_won m x.1.step x.1.answer) (enumerate_from 0 trace))

-- the pin of an entry at a place of the history, when its step is among these
abbrev pub pin_at : Span → ℕ → Applied → ℕ → Option Pin
pin_at window place entry step = if not (nat_lt step window.first) && nat_lt step window.behind
    then Some (record { entry = entry; place = place; mark = step - window.first }) else None

-- the pins of the entries of a history that have these steps, each at its place
abbrev pub pins_at : Span → List Applied → List ℕ → List Pin
pins_at window history steps = filter_map (λ x. pin_at window x.0 x.1.0 x.1.1) (enumerate_from 0 (zip history steps))
