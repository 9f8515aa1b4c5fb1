use Rattle.partial_replay.proofs.Common.{ℕ, IsBetweenTurns, IsSameOpening, port_left_at, StayStopped, StepsMade}
use Rattle.partial_replay.proofs.run.Run.to_the_end.Given as goal

-- the replay is between two turns, and a step was made in each turn
abbrev pub invariant-loop : goal.invariant-loop
invariant-loop l = record {
  between : IsBetweenTurns l.plans l.self;
  same : IsSameOpening l.fn.self l.self;
  ending : StayStopped l.fn.self l.self;
  steps : (n : ℕ) × StepsMade l.plans l.p n l.fn.self l.self;
}

abbrev pub decreases-loop : goal.decreases-loop
decreases-loop l = port_left_at l.p l.plans l.self.ports.items
