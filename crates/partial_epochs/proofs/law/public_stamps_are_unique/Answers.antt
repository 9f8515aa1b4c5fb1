use Rattle.partial_epochs.proofs.OneHistory.{public_stamps_are_unique}
use Rattle.partial_epochs.proofs.law.public_stamps_are_unique.Goals as goal

pub returns : goal.returns
returns c = public_stamps_are_unique
