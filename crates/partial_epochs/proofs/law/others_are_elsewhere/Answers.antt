use Rattle.partial_epochs.proofs.Taking.{others_are_elsewhere}
use Rattle.partial_epochs.proofs.law.others_are_elsewhere.Goals as goal

pub returns : goal.returns
returns c = others_are_elsewhere
