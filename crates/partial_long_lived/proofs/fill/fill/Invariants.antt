use Rattle.partial_long_lived.proofs.Common.{◌+◌, ◌*◌, ◌≤◌, first_free, list_base, IsHeld, port_at, Stays, HasSetWords, after_values}
use Rattle.partial_long_lived.proofs.fill.fill.Given as goal

abbrev pub invariant-loop-component : goal.invariant-loop-component
invariant-loop-component l = record {
  held : IsHeld l.words.table_id l.words.key l.stand;
  stays : Stays l.fn.stand l.stand;
  sealed : l.words.key.sizes.m ≤ (port_at l.stand).port.passed;
  works : HasSetWords l.stand l.arena l.words.key.ports (after_values l.words.key.sizes l.component);
  steps : l.stand.seat.steps ≤ l.fn.stand.seat.steps + (1 + list_base l.words.key.sizes + 4 * l.component);
}

abbrev pub invariant-loop-component-2 : goal.invariant-loop-component-2
invariant-loop-component-2 l = record {
  held : IsHeld l.words.table_id l.words.key l.stand;
  stays : Stays l.fn.stand l.stand;
  sealed : l.words.key.sizes.m ≤ (port_at l.stand).port.passed;
  works : HasSetWords l.stand l.arena l.words.key.ports (first_free l.words.key.sizes + l.component);
  steps : l.stand.seat.steps ≤ l.fn.stand.seat.steps + (1 + list_base l.words.key.sizes + 4 * l.words.key.sizes.m + 4 * l.component);
}
