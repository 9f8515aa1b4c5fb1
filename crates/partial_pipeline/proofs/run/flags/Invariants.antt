use Rattle.partial_pipeline.proofs.Common.{◌≡◌, ◌≤◌, length, vec_capacity}
use Rattle.partial_pipeline.proofs.run.flags.Given as goal

-- room for the flags to come
abbrev pub invariant-loop-stage : goal.invariant-loop-stage
invariant-loop-stage l = record {
  count : length l.ended.items ≡ l._stage;
  room : l.stages ≤ vec_capacity l.ended;
}
