use Rattle.partial_epochs.proofs.Sights.{sights_stay_lawful}
use Rattle.partial_epochs.proofs.law.sights_stay_lawful.Goals as goal

pub returns : goal.returns
returns c = sights_stay_lawful
