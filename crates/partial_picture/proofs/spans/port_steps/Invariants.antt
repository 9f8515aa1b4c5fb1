use Rattle.std.proofs.Common.{map, take}
use Rattle.partial_picture.proofs.Dealt.{AreDealt}
use Rattle.partial_picture.proofs.spans.port_steps.Given as goal

abbrev pub invariant-loop-step : goal.invariant-loop-step
invariant-loop-step l = AreDealt l.ports (map (λ own. own.items) l.steps.items) (take l.step l.trace)
