use Rattle.partial_long_lived.proofs.Common.{◌≡◌, ◌+◌, ◌≤◌, length, IsHeld, port_at, StaysAt, ArePublic}
use Rattle.partial_long_lived.proofs.stamped.load_stamps.Given as goal

abbrev pub invariant-loop-k : goal.invariant-loop-k
invariant-loop-k l = record {
  held : IsHeld l.words.table_id l.words.key l.stand;
  kept : StaysAt l.fn.stand l.stand;
  same : port_at l.stand ≡ port_at l.fn.stand;
  many : length l.stamps ≡ length l.fn.stamps;
  stamps : ArePublic (port_at l.fn.stand) l.which l.kept l.stamps l.k;
  steps : l.stand.seat.steps ≤ l.fn.stand.seat.steps + l.k;
}
