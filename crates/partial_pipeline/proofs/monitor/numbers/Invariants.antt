use Rattle.partial_pipeline.proofs.Common.{◌≤◌, vec_capacity, IsEachStage}
use Rattle.partial_pipeline.proofs.monitor.numbers.Given as goal

-- the numbers so far
abbrev pub invariant-loop-stage : goal.invariant-loop-stage
invariant-loop-stage l = record {
  each : IsEachStage l.stage l.all.items;
  room : l.stages ≤ vec_capacity l.all;
}
