use Rattle.partial_long_lived.proofs.Common.{◌+◌, ◌*◌, ◌≤◌, false, IsHeld, Remains, HasSetWords, SearchesOn}
use Rattle.partial_long_lived.proofs.clear.clear.Given as goal

abbrev pub invariant-loop-port : goal.invariant-loop-port
invariant-loop-port l = record {
  held : IsHeld l.words.table_id l.words.key l.stand;
  remains : Remains l.fn.stand l.stand;
  works : HasSetWords l.stand l.arena l.port 0;
  searches : SearchesOn false l.arena l.fn.stand l.stand;
  steps : l.stand.seat.steps ≤ l.fn.stand.seat.steps + (1 + 3 * l.port);
}
