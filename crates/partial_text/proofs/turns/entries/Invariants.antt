use Rattle.partial_text.proofs.Common.{◌≡◌, [], length, pieces_behind, entries_at}
use Rattle.partial_text.proofs.turns.entries.Given as goal

abbrev pub invariant-loop-rest : goal.invariant-loop-rest
invariant-loop-rest l =
    entries_at l.line l.ports l.found.items (pieces_behind 32 l.rest) ≡ entries_at l.line l.ports [] (pieces_behind 32 l.fields)

abbrev pub decreases-loop-rest : goal.decreases-loop-rest
decreases-loop-rest l = length l.rest
