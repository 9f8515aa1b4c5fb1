use Rattle.partial_long_lived.proofs.StepNumbers.{most_steps_in_numbers}
use Rattle.partial_long_lived.proofs.law.most_steps_in_numbers.Goals as goal

pub returns : goal.returns
returns c = most_steps_in_numbers
