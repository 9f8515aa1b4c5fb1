use Rattle.partial_long_lived.proofs.Common.{◌≡◌, ◌+◌, ◌≤◌, ◌-◌, length, IsHeld, port_at, IsIdle, AreCollected, HasGlanced}
use Rattle.partial_long_lived.proofs.double_collect.collects_again.Given as goal

abbrev pub invariant-loop-k : goal.invariant-loop-k
invariant-loop-k l = record {
  held : IsHeld l.words.table_id l.words.key l.stand;
  base : l.base ≡ l.stand.base;
  glanced : HasGlanced l.fn.stand l.stand;
  idle : IsIdle l.stand;
  within : l.k ≤ length l.which;
  collected : AreCollected (port_at l.stand) (length (port_at l.fn.stand).port.part.seen) (length (port_at l.stand).port.part.seen) l.which l.kept l.k;
  steps : l.stand.seat.steps ≤ l.fn.stand.seat.steps + l.k;
}

abbrev pub decreases-loop-k : goal.decreases-loop-k
decreases-loop-k l = length l.which - l.k
