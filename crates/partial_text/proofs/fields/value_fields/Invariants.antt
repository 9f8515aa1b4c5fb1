use Rattle.partial_text.proofs.Common.{◌≡◌, [], length, pieces_behind, greatest, numbers_at}
use Rattle.partial_text.proofs.fields.value_fields.Given as goal

abbrev pub invariant-loop-rest : goal.invariant-loop-rest
invariant-loop-rest l =
    numbers_at l.line greatest l.values.items (pieces_behind 32 l.rest) ≡ numbers_at l.line greatest [] (pieces_behind 32 l.fields)

abbrev pub decreases-loop-rest : goal.decreases-loop-rest
decreases-loop-rest l = length l.rest
