use Rattle.partial_pipeline.proofs.Common.{◌≡◌, ◌≤◌, length, vec_capacity, AreFrom, EndEach, HasMetMonitor, IsWatching}
use Rattle.partial_pipeline.proofs.run.join.Given as goal

-- the stages that have ended so far
abbrev pub invariant-loop-handle : goal.invariant-loop-handle
invariant-loop-handle g l = record {
  watching : IsWatching l.memory l.joined.monitor;
  each : AreFrom (HasMetMonitor l.memory (length l.joined.monitor.port.seen)) 0 l.joined.ports.items;
  ports : length l.joined.ports.items ≡ length l.yielded;
  ended : EndEach l.fn.items 0 l.joined.ports.items l.joined.ends.items;
  ends : length l.joined.ends.items ≡ length l.yielded;
  ports_room : length l.fn.started.items ≤ vec_capacity l.joined.ports;
  ends_room : length l.fn.started.items ≤ vec_capacity l.joined.ends;
}
