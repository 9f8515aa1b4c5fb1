use Rattle.partial_core.proofs.WholeCalls.{made_calls_make_their_steps}
use Rattle.partial_core.proofs.law.made_calls_make_their_steps.Goals as goal

pub returns : goal.returns
returns c = made_calls_make_their_steps
