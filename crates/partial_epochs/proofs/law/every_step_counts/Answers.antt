use Rattle.partial_epochs.proofs.FreeArenas.{every_step_counts}
use Rattle.partial_epochs.proofs.law.every_step_counts.Goals as goal

pub returns : goal.returns
returns c = every_step_counts
