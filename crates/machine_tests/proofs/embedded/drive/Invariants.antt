use Rattle.std.specs.Prelude.{◌≡◌}
use Rattle.partial_embedded.specs.Embedded.{ViewGoesTogether, view_left}
use Rattle.machine_tests.proofs.embedded.drive.Given as goal

-- the machine, its positions and its buffers go together
abbrev pub invariant-loop-step : goal.invariant-loop-step
invariant-loop-step g l = ViewGoesTogether l.indices (l.scan, l.rows) × (l.scan.sizes ≡ l.initial.scan.sizes)

abbrev pub decreases-loop-step : goal.decreases-loop-step
decreases-loop-step g l = view_left l.indices (l.scan, l.rows)
