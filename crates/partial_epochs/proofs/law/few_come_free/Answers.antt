use Rattle.partial_epochs.proofs.InUse.{few_come_free}
use Rattle.partial_epochs.proofs.law.few_come_free.Goals as goal

pub returns : goal.returns
returns c = few_come_free
