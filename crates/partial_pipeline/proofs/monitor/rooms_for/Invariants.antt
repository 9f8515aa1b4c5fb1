use Rattle.partial_pipeline.proofs.Common.{◌≡◌, ◌≤◌, length, vec_capacity, AreRooms}
use Rattle.partial_pipeline.proofs.monitor.rooms_for.Given as goal

-- the room so far
abbrev pub invariant-loop-scan : goal.invariant-loop-scan
invariant-loop-scan l = record {
  rooms : AreRooms l.stages l.rooms.items;
  count : length l.rooms.items ≡ l._scan;
  room : l.scans ≤ vec_capacity l.rooms;
}
