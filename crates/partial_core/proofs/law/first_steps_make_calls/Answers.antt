use Rattle.partial_core.proofs.WholeCalls.{first_steps_make_calls}
use Rattle.partial_core.proofs.law.first_steps_make_calls.Goals as goal

pub returns : goal.returns
returns c = first_steps_make_calls
