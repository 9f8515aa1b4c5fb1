use Rattle.partial_pipeline.proofs.Common.{◌≡◌, ◌≤◌, length, vec_capacity, AreFrom, IsStageStarted}
use Rattle.partial_pipeline.proofs.run.start.Given as goal

-- the threads so far
abbrev pub invariant-loop-port : goal.invariant-loop-port
invariant-loop-port g l = record {
  each : AreFrom (IsStageStarted l.memory l.items) 0 l.started.items;
  count : length l.started.items ≡ length l.yielded;
  room : length l.fn.ports.items ≤ vec_capacity l.started;
}
