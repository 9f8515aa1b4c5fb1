use Rattle.partial_core.proofs.Ports.{looks_stay_lawful}
use Rattle.partial_core.proofs.law.looks_stay_lawful.Goals as goal

pub returns : goal.returns
returns c = looks_stay_lawful
