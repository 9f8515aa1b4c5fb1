use Rattle.memory_tests.proofs.Common.{length, All, IfSome, AllByRecursion, IsOf}
use Rattle.memory_tests.proofs.closings.parted.Given as goal

abbrev pub invariant-loop-worker : goal.invariant-loop-worker
invariant-loop-worker l = record {
  ports : AllByRecursion (IsOf l.memory) l.ports.items;
  workers : All (λ w. IsOf l.memory w.port × IfSome w.other (IsOf l.memory)) l.workers.items;
}

abbrev pub decreases-loop-worker : goal.decreases-loop-worker
decreases-loop-worker l = length l.workers.items
