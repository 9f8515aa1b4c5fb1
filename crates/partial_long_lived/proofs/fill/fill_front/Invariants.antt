use Rattle.partial_long_lived.proofs.Common.{◌≡◌, ◌+◌, ◌≤◌, list_base, IsHeld, port_at, HasPassed, Stays, HasSetWords}
use Rattle.partial_long_lived.proofs.fill.fill_front.Given as goal

abbrev pub invariant-loop-number : goal.invariant-loop-number
invariant-loop-number l = record {
  held : IsHeld l.words.table_id l.words.key l.stand;
  stays : Stays l.fn.stand l.stand;
  passed : HasPassed l.fn.stand l.stand;
  sealed : l.words.key.sizes.m ≤ (port_at l.stand).port.passed;
  works : HasSetWords l.stand l.arena l.words.key.ports l.number;
  from : l.words.key.sizes.slots ≤ l.number;
  last : l.last + 1 ≡ list_base l.words.key.sizes;
  steps : l.stand.seat.steps + l.words.key.sizes.slots ≤ l.fn.stand.seat.steps + l.number;
}
