use Rattle.partial_long_lived.proofs.Common.{IsHeld, IsIdle, Remains}
use Rattle.partial_long_lived.proofs.Passing.{SearchedSo, passes_left}
use Rattle.partial_long_lived.proofs.claim.claim.Given as goal

abbrev pub invariant-loop-current : goal.invariant-loop-current
invariant-loop-current l = record {
  held : IsHeld l.words.table_id l.words.key l.stand;
  remains : Remains l.fn.stand l.stand;
  idle : IsIdle l.stand;
  searched : SearchedSo l.current l.words.key l.fn.stand l.stand;
}

abbrev pub decreases-loop-current : goal.decreases-loop-current
decreases-loop-current l = passes_left l.current l.stand
