use Rattle.partial_epochs.proofs.Collects.{collects_stand_together}
use Rattle.partial_epochs.proofs.law.collects_stand_together.Goals as goal

pub returns : goal.returns
returns c = collects_stand_together
