use Rattle.partial_epochs.proofs.EveryStep.{every_step_stays_lawful}
use Rattle.partial_epochs.proofs.law.every_step_stays_lawful.Goals as goal

pub returns : goal.returns
returns c = every_step_stays_lawful
