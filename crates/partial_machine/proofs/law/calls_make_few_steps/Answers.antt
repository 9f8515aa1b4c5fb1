use Rattle.partial_machine.proofs.StepCounts.{makes_few_steps}
use Rattle.partial_machine.proofs.law.calls_make_few_steps.Goals as goal

pub returns : goal.returns
returns c = makes_few_steps
