use Rattle.partial_machine.proofs.Behind.{due_is_unreplied}
use Rattle.partial_machine.proofs.law.due_is_unreplied.Goals as goal

pub returns : goal.returns
returns c = due_is_unreplied
