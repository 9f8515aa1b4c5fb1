use Rattle.partial_machine.proofs.StepCounts.{reads_in_two}
use Rattle.partial_machine.proofs.law.reads_make_two_steps.Goals as goal

pub returns : goal.returns
returns c = reads_in_two
