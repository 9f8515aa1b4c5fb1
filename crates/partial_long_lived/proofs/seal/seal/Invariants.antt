use Rattle.partial_long_lived.proofs.Common.{◌≡◌, ◌+◌, ◌≤◌, ◌⊎◌, IsHeld, IsIdle, HasSamePart, Stays}
use Rattle.partial_long_lived.proofs.seal.seal.Given as goal

abbrev pub invariant-loop : goal.invariant-loop
invariant-loop l = record {
  held : IsHeld l.words.table_id l.words.key l.stand;
  stays : Stays l.fn.stand l.stand;
  same : HasSamePart l.fn.stand l.stand;
  free : IsIdle l.stand;
  at : l.counter ≡ l.stand.passed;
  all : l.m ≡ l.words.key.sizes.m;
  within : (l.counter ≤ l.m) ⊎ (l.counter ≡ l.fn.stand.passed);
  steps : l.stand.seat.steps + l.fn.stand.passed ≤ l.fn.stand.seat.steps + l.counter;
}
