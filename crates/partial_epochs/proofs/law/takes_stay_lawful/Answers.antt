use Rattle.partial_epochs.proofs.Taking.{takes_stay_lawful}
use Rattle.partial_epochs.proofs.law.takes_stay_lawful.Goals as goal

pub returns : goal.returns
returns c = takes_stay_lawful
