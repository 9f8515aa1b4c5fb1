use Rattle.std.proofs.Common.{◌≡◌, [], map}
use Rattle.partial_picture.specs.Made.{steps_by_port}
use Rattle.partial_picture.proofs.spans.no_steps.Given as goal

abbrev pub invariant-loop-port : goal.invariant-loop-port
invariant-loop-port l = map (λ own. own.items) l.steps.items ≡ steps_by_port l._port []
