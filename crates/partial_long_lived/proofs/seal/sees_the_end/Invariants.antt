use Rattle.partial_long_lived.proofs.Common.{◌+◌, ◌≤◌, IsHeld, IsIdle, Remains}
use Rattle.partial_long_lived.proofs.seal.sees_the_end.Given as goal

abbrev pub invariant-loop : goal.invariant-loop
invariant-loop l = record {
  held : IsHeld l.words.table_id l.words.key l.stand;
  remains : Remains l.fn.stand l.stand;
  free : IsIdle l.stand;
  steps : l.stand.seat.steps ≤ l.fn.stand.seat.steps + l.counter;
}
