use Rattle.partial_model.proofs.Common.{◌≡◌, ◌≤◌, length, drop, notes_are_legal}
use Rattle.partial_model.proofs.checker.notes.notes_are_legal.Given as goal

-- the calls from here on decide, and the port has seen no more than the history
abbrev pub invariant-loop-call : goal.invariant-loop-call
invariant-loop-call l = record {
  rest : notes_are_legal l.opening l.history l.port l.seen (drop l.call-index l.calls) ≡ notes_are_legal l.opening l.history 0 0 l.calls;
  within : l.seen ≤ length l.history;
}
