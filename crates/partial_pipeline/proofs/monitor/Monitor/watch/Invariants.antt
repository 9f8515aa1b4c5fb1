use Rattle.partial_pipeline.proofs.Common.{IsWatching}
use Rattle.partial_pipeline.proofs.monitor.Monitor.watch.Given as goal

-- the monitor between two scans
abbrev pub invariant-loop-room : goal.invariant-loop-room
invariant-loop-room g l = IsWatching l.memory l.self

abbrev pub decreases-loop-room : goal.decreases-loop-room
decreases-loop-room g l = goal.left-loop-room g l
