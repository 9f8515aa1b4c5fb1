use Rattle.partial_workers.proofs.Common.{◌≡◌, ◌≤◌, length, map, take, vec_capacity, AreEach, IsWorkStarted}
use Rattle.partial_workers.proofs.workers.start.Given as goal

-- the threads so far
abbrev pub invariant-loop-worker : goal.invariant-loop-worker
invariant-loop-worker g l = record {
  each : AreEach (IsWorkStarted l.memory) 0 (take (length l.yielded) (map (λ c. c.now) l.calls)) l.started.items;
  count : length l.started.items ≡ length l.yielded;
  room : length l.calls ≤ vec_capacity l.started;
}
