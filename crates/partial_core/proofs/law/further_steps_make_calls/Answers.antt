use Rattle.partial_core.proofs.WholeCalls.{further_steps_make_calls}
use Rattle.partial_core.proofs.law.further_steps_make_calls.Goals as goal

pub returns : goal.returns
returns c = further_steps_make_calls
