use Rattle.partial_replay.proofs.Common.{◌++◌, map, take, range_with_len, so_many, to_its_end, StopAtSteps, HasReplayed}
use Rattle.partial_replay.proofs.replaying.replay_apart.Given as goal

-- the replay is of the plan's sizes and values, and has made the turns so far
abbrev pub invariant-loop-p : goal.invariant-loop-p
invariant-loop-p l = record {
  replayed : HasReplayed l.plan l.plans (map so_many (take l.p-index l.plan.steps)) l.run;
  ending : StopAtSteps (take l.p-index l.plan.steps) l.run;
}

abbrev pub invariant-loop-p-then-rest : goal.invariant-loop-p-then-rest
invariant-loop-p-then-rest l = HasReplayed l.plan l.plans (map so_many l.plan.steps ++ map to_its_end (range_with_len 0 l.p)) l.run
