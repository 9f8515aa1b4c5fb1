use Rattle.partial_text.proofs.{Common.{◌≡◌, ◌≤◌, ◌-◌, length, take, drop, call_texts}, CallCuts.with_front}
use Rattle.partial_text.proofs.calls.split_call.Given as goal

abbrev pub invariant-loop-ahead : goal.invariant-loop-ahead
invariant-loop-ahead l = record { within : l.from ≤ length l.text; so_far : call_texts l.text ≡ with_front (take l.from l.text) (call_texts (drop l.from l.text)) }

abbrev pub decreases-loop-ahead : goal.decreases-loop-ahead
decreases-loop-ahead l = length l.text - l.from
