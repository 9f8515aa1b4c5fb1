use Rattle.partial_epochs.proofs.InUse.{owned_arenas_are_in_use}
use Rattle.partial_epochs.proofs.law.owned_arenas_are_in_use.Goals as goal

pub returns : goal.returns
returns c = owned_arenas_are_in_use
