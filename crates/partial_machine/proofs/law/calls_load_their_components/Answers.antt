use Rattle.partial_machine.proofs.Components.{calls_load_their_components}
use Rattle.partial_machine.proofs.law.calls_load_their_components.Goals as goal

pub returns : goal.returns
returns c = calls_load_their_components
