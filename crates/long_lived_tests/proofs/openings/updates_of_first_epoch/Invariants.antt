use Rattle.partial_long_lived.specs.Ports.{IsOf}
use Rattle.long_lived_tests.proofs.openings.updates_of_first_epoch.Given as goal

abbrev pub invariant-loop-count : goal.invariant-loop-count
invariant-loop-count g l = IsOf l.memory l.port
