use Rattle.partial_epochs.proofs.Taking.{owners_look_away}
use Rattle.partial_epochs.proofs.law.owners_look_away.Goals as goal

pub returns : goal.returns
returns c = owners_look_away
