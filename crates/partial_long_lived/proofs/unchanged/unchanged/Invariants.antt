use Rattle.partial_long_lived.proofs.Common.{true, ◌+◌, ◌*◌, ◌≤◌, IsHeld, port_at, IsIdle, EpochSettled, HadStamps}
use Rattle.partial_long_lived.proofs.unchanged.unchanged.Given as goal

abbrev pub invariant-loop-k : goal.invariant-loop-k
invariant-loop-k l = record {
  held : IsHeld l.words.table_id l.words.key l.stand;
  idle : IsIdle l.stand;
  settled : EpochSettled true l.fn.stand l.stand;
  had : HadStamps (port_at l.stand) l.which l.stamps l.k;
  steps : l.stand.seat.steps ≤ l.fn.stand.seat.steps + (4 + 2 * l.k);
}
