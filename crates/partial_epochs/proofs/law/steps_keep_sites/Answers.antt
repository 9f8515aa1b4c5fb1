use Rattle.partial_epochs.proofs.Time.{steps_keep_sites}
use Rattle.partial_epochs.proofs.law.steps_keep_sites.Goals as goal

pub returns : goal.returns
returns c = steps_keep_sites
