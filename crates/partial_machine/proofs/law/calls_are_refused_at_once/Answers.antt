use Rattle.partial_machine.proofs.Begins.{calls_are_refused_at_once}
use Rattle.partial_machine.proofs.law.calls_are_refused_at_once.Goals as goal

pub returns : goal.returns
returns c = calls_are_refused_at_once
