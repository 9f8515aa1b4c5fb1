use Rattle.partial_long_lived.proofs.Common.{◌+◌, ◌≤◌, IsHeld, port_at, HasPassed, Stays, HasSetWords}
use Rattle.partial_long_lived.proofs.fill.fill_slots.Given as goal

abbrev pub invariant-loop-number : goal.invariant-loop-number
invariant-loop-number l = record {
  held : IsHeld l.words.table_id l.words.key l.stand;
  stays : Stays l.fn.stand l.stand;
  passed : HasPassed l.fn.stand l.stand;
  sealed : l.words.key.sizes.m ≤ (port_at l.stand).port.passed;
  works : HasSetWords l.stand l.arena l.words.key.ports l.number;
  steps : l.stand.seat.steps + l.clear ≤ l.fn.stand.seat.steps + (1 + l.number);
}
