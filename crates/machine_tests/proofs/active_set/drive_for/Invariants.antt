use Rattle.std.specs.Prelude.{◌≡◌}
use Rattle.partial_active.specs.GetSetAnswers.{SetGoesTogether}
use Rattle.machine_tests.proofs.active_set.drive_for.Given as goal

-- the machine and its buffers go together
abbrev pub invariant-loop : goal.invariant-loop
invariant-loop g l = SetGoesTogether (l.get, l.found) × (l.get.sizes ≡ l.initial.get.sizes)
