use Rattle.partial_replay.proofs.Common.{IsBetweenTurns, IsSameOpening, StayStopped, StepsMade}
use Rattle.partial_replay.proofs.run.Run.turns.Given as goal

-- the replay is between two turns, and a step was made in each turn
abbrev pub invariant-loop : goal.invariant-loop
invariant-loop l = record {
  between : IsBetweenTurns l.plans l.self;
  same : IsSameOpening l.fn.self l.self;
  ending : StayStopped l.fn.self l.self;
  steps : StepsMade l.plans l.p l.counter l.fn.self l.self;
}
