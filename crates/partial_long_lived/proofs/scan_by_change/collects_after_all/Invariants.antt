use Rattle.partial_long_lived.proofs.Common.{◌≡◌, ◌+◌, ◌*◌, ◌≤◌, length, IsHeld, port_at, IsIdle, HasStayed}
use Rattle.partial_long_lived.specs.Bounds.{double_collect_steps}
use Rattle.partial_long_lived.proofs.scan_by_change.collects_after_all.Given as goal

abbrev pub invariant-loop : goal.invariant-loop
invariant-loop l = record {
  held : IsHeld l.words.table_id l.words.key l.stand;
  idle : IsIdle l.stand;
  stayed : HasStayed l.fn.stand l.stand;
  notes : (port_at l.stand).notes ≡ (port_at l.fn.stand).notes;
  into : l.into ≡ l.fn.into;
  room : length l.kept ≡ length l.fn.kept;
  steps : l.stand.seat.steps ≤ l.fn.stand.seat.steps + l.counter * double_collect_steps (length l.which);
}
