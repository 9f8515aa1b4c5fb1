use Rattle.partial_pipeline.proofs.Common.{◌≡◌, IsWorking, Stopped}
use Rattle.partial_pipeline.proofs.stage.Stage.run.Given as goal

-- the stage between two turns
abbrev pub invariant-loop-turn : goal.invariant-loop-turn
invariant-loop-turn g l = record {
  working : IsWorking l.memory l.self;
  number : l.self.port.number ≡ l.fn.self.port.number;
  items : l.self.items ≡ l.fn.self.items;
  end : l.end ≡ Stopped;
}
