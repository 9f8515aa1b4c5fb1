use Rattle.partial_core.proofs.Published.{steps_are_orderly}
use Rattle.partial_core.proofs.law.steps_are_orderly.Goals as goal

pub returns : goal.returns
returns c = steps_are_orderly
