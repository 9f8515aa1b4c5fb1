use Rattle.partial_text.proofs.Common.{◌≡◌, ◌∷◌, [], length, calls_at, call_texts, call_texts_behind}
use Rattle.partial_text.proofs.calls.calls_of.Given as goal

abbrev pub invariant-loop-calls : goal.invariant-loop-calls
invariant-loop-calls l =
    calls_at l.m l.line l.calls.items (l.first ∷ call_texts_behind l.rest) ≡ calls_at l.m l.line [] (call_texts l.text)

abbrev pub decreases-loop-calls : goal.decreases-loop-calls
decreases-loop-calls l = length l.rest
