use Rattle.memory_tests.proofs.Common.{◌<◌, length, All, IfSome, AllByRecursion, PortView, IsOf}
use Rattle.memory_tests.proofs.workers.hire.Given as goal

abbrev pub invariant-loop : goal.invariant-loop
invariant-loop l = record {
  ports : AllByRecursion (IsOf l.memory) l.ports.items;
  workers : All (λ w. IsOf l.memory w.port × IfSome w.other (IsOf l.memory)) l.workers.items;
}
