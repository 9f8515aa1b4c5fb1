use Rattle.partial_workers.proofs.Common.{take, AreMakable}
use Rattle.partial_workers.proofs.makable.are_makable.Given as goal

-- the ports so far
abbrev pub invariant-loop-calls : goal.invariant-loop-calls
invariant-loop-calls l = record {
  makable : AreMakable l.m (take l.calls-index l.ports);
}
