use Rattle.partial_core.proofs.Ports.{lawful_calls_are_bounded}
use Rattle.partial_core.proofs.law.lawful_calls_are_bounded.Goals as goal

pub returns : goal.returns
returns c = lawful_calls_are_bounded
