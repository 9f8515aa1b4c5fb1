use Rattle.memory_tests.proofs.Common.{◌≤◌, IfSome, IsOf}
use Rattle.memory_tests.proofs.workers.Worker.work.Given as goal

abbrev pub invariant-loop-value : goal.invariant-loop-value
invariant-loop-value l = IsOf l.memory l.self.port × IfSome l.self.other (IsOf l.memory)
