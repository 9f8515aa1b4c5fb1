-- Which steps of a replay its calls made.
use Rattle.std.specs.Prelude.{ℕ, ◌==◌, ◌-◌, nat_lt, max, List, [], ◌∷◌, ◌++◌, length, map, filter, take, drop, slice_get, slice_index_or}
use Rattle.std.specs.List.{enumerate_from, range_with_len}
use Rattle.std.specs.Option.{option_map_or}
use Rattle.partial_model.specs.declared.call.Called.{Called}
use Rattle.partial_words.specs.declared.step.Event.{Event}
use Rattle.partial_replay.specs.Listed.{steps_by}
use Rattle.partial_picture.specs.Lengths.{sum_of}
use Rattle.partial_picture.specs.Pins.{won_steps}
use Rattle.partial_picture.specs.declared.spans.Made.{Made}
use Rattle.partial_picture.specs.declared.window.Span.{Span}

-- the steps of a port, in order
abbrev pub port_steps : ℕ → List Event → List ℕ
port_steps q trace = map (λ x. x.0) (filter (λ x. x.1.port == q) (enumerate_from 0 trace))

-- those of each of so many ports
abbrev pub steps_by_port : ℕ → List Event → List (List ℕ)
steps_by_port ports trace = map (λ q. port_steps q trace) (range_with_len 0 ports)

-- a call, its steps, and from where to where it is drawn
pub record CallSpan : Type 0 where
  pub called : Called
  pub span : Span
  pub steps : List ℕ

-- what was found of a call
abbrev pub made_seen : Made → CallSpan
made_seen m = record { called = m.called.now; span = m.span; steps = m.steps.now }

-- the index after the last of these steps, or 0 when there is none
abbrev pub end_behind : List ℕ → ℕ
end_behind steps = option_map_or (λ s. sum_of s 1) (slice_get steps (length steps - 1)) 0

-- Where a call without a step is drawn, of a port with these steps, some of which are left: before the next one, or,
-- when there is none, after the last one and after the entries that the history had when the call began.
abbrev pub between_of : List ℕ → List ℕ → List ℕ → ℕ → ℕ
between_of own [] entries began = max (end_behind own) (end_behind (take began entries))
between_of own (s ∷ left) entries began = s

-- from the first of a call's steps to the last one, or between two steps when there is none
abbrev pub span_of : List ℕ → ℕ → Span
span_of [] between = record { first = between; behind = between }
span_of (s ∷ steps) between = record { first = s; behind = end_behind (s ∷ steps) }

-- what a call made, of a port with these steps of which the calls in front have made so many
abbrev pub call_span : List ℕ → ℕ → List ℕ → Called → CallSpan
call_span own taken entries c = let steps = take c.steps (drop taken own) in record {
  called = c;
  span = span_of steps (between_of own (drop c.steps (drop taken own)) entries c.began);
  steps = steps;
}

-- what these calls made, each after those in front of it
abbrev pub made_after : List (List ℕ) → List ℕ → List Called → List Called → List CallSpan
made_after ports entries front [] = []
made_after ports entries front (c ∷ calls) = call_span (slice_index_or ports c.port []) (steps_by c.port front) entries c
    ∷ made_after ports entries (front ++ c ∷ []) calls

-- what the calls of ports with these steps made, where the entries of the history have those
abbrev pub made_by_ports : List (List ℕ) → List ℕ → List Called → List CallSpan
made_by_ports ports entries calls = made_after ports entries [] (filter (λ c. nat_lt c.port (length ports)) calls)

-- what the calls of a replay made, in a memory of m components with so many ports
abbrev pub calls_made : ℕ → ℕ → List Event → List Called → List CallSpan
calls_made m ports trace calls = made_by_ports (steps_by_port ports trace) (won_steps m trace) calls
