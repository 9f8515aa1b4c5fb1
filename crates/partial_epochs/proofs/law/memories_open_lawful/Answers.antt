use Rattle.partial_epochs.proofs.EveryStep.{memories_open_lawful}
use Rattle.partial_epochs.proofs.law.memories_open_lawful.Goals as goal

pub returns : goal.returns
returns c = memories_open_lawful
