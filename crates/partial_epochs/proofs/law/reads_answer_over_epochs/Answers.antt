use Rattle.partial_epochs.proofs.Continue.{reads_answer_over_epochs}
use Rattle.partial_epochs.proofs.law.reads_answer_over_epochs.Goals as goal

pub returns : goal.returns
returns c = reads_answer_over_epochs
