use Rattle.partial_epochs.proofs.Room.{machines_are_never_refused}
use Rattle.partial_epochs.proofs.law.machines_are_never_refused.Goals as goal

pub returns : goal.returns
returns c = machines_are_never_refused
