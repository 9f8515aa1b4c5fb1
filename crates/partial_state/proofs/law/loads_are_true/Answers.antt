use Rattle.partial_state.proofs.LoadLaw.{loads_are_true}
use Rattle.partial_state.proofs.law.loads_are_true.Goals as goal

pub returns : goal.returns
returns c = loads_are_true
