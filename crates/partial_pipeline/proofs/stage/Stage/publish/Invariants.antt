use Rattle.partial_pipeline.proofs.Common.{◌≡◌, ◌+◌, ◌≤◌, IsWorking}
use Rattle.partial_pipeline.proofs.stage.Stage.publish.Given as goal

-- the stage while it tries to publish its next count
abbrev pub invariant-loop-turn : goal.invariant-loop-turn
invariant-loop-turn l = record {
  working : IsWorking l.memory l.self;
  number : l.self.port.number ≡ l.fn.self.port.number;
  items : l.self.items ≡ l.fn.self.items;
  read : l.next ≤ l.self.seen;
  count : l.next ≡ l.self.count + 1;
}
