use Rattle.partial_long_lived.proofs.Common.{ℕ, ◌≡◌, ◌+◌, ◌≤◌, length, IsHeld, port_at, IsIdle, AreCollected, HasGlanced}
use Rattle.partial_long_lived.proofs.double_collect.collects_some_again.Given as goal

abbrev pub invariant-loop-k : goal.invariant-loop-k
invariant-loop-k l = record {
  held : IsHeld l.words.table_id l.words.key l.stand;
  base : l.base ≡ l.stand.base;
  glanced : HasGlanced l.fn.stand l.stand;
  idle : IsIdle l.stand;
  collected : (low : ℕ) → low ≤ length (port_at l.fn.stand).port.part.seen →
      AreCollected (port_at l.fn.stand) low (length (port_at l.fn.stand).port.part.seen) l.which l.kept l.from →
      AreCollected (port_at l.stand) low (length (port_at l.stand).port.part.seen) l.which l.kept (l.from + l.k);
  steps : l.stand.seat.steps ≤ l.fn.stand.seat.steps + l.k;
}
