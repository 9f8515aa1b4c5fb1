use Rattle.partial_long_lived.specs.Ports.{IsOf}
use Rattle.long_lived_tests.proofs.overtaken.set_at_last.Given as goal

abbrev pub invariant-loop : goal.invariant-loop
invariant-loop l = IsOf l.memory l.port
