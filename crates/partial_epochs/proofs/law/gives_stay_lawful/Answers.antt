use Rattle.partial_epochs.proofs.Taking.{gives_stay_lawful}
use Rattle.partial_epochs.proofs.law.gives_stay_lawful.Goals as goal

pub returns : goal.returns
returns c = gives_stay_lawful
