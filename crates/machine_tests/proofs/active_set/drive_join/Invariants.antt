use Rattle.partial_active.specs.Join.{join_left}
use Rattle.machine_tests.proofs.active_set.drive_join.Given as goal

abbrev pub decreases-loop-step : goal.decreases-loop-step
decreases-loop-step g l = join_left l.join.stage
