use Rattle.partial_long_lived.proofs.Common.{◌≡◌, ◌+◌, ◌≤◌, length, IsHeld, port_at, IsIdle, AreCollected, HasGlanced}
use Rattle.partial_long_lived.proofs.double_collect.collect_some.Given as goal

abbrev pub invariant-loop-k : goal.invariant-loop-k
invariant-loop-k l = record {
  held : IsHeld l.words.table_id l.words.key l.stand;
  base : l.base ≡ l.stand.base;
  glanced : HasGlanced l.fn.stand l.stand;
  idle : IsIdle l.stand;
  room : length l.kept ≡ length l.fn.kept;
  collected : AreCollected (port_at l.stand) 0 (length (port_at l.stand).port.part.seen) l.which l.kept (l.from + l.k);
  steps : l.stand.seat.steps ≤ l.fn.stand.seat.steps + l.k;
}
