use Rattle.partial_epochs.proofs.Room.{machines_are_never_spent}
use Rattle.partial_epochs.proofs.law.machines_are_never_spent.Goals as goal

pub returns : goal.returns
returns c = machines_are_never_spent
