use Rattle.partial_workers.proofs.Common.{◌≡◌, ◌≤◌, length, map, take, vec_capacity, AreEach, IsHired}
use Rattle.partial_workers.proofs.workers.hire.Given as goal

-- the workers so far
abbrev pub invariant-loop-port : goal.invariant-loop-port
invariant-loop-port l = record {
  each : AreEach (IsHired l.memory) 0 (take (length l.yielded) (map (λ c. c.now) l.calls)) l.workers.items;
  count : length l.workers.items ≡ length l.yielded;
  room : length l.fn.ports.items ≤ vec_capacity l.workers;
}
