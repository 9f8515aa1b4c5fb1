use Rattle.partial_epochs.proofs.Sights.{glances_stay_lawful}
use Rattle.partial_epochs.proofs.law.glances_stay_lawful.Goals as goal

pub returns : goal.returns
returns c = glances_stay_lawful
