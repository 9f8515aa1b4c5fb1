use Rattle.partial_epochs.proofs.Sights.{asides_stay_lawful}
use Rattle.partial_epochs.proofs.law.asides_stay_lawful.Goals as goal

pub returns : goal.returns
returns c = asides_stay_lawful
