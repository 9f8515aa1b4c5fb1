use Rattle.partial_text.proofs.CallNumbers.{plans_have_few_calls}
use Rattle.partial_text.proofs.law.plans_have_few_calls.Goals as goal

pub returns : goal.returns
returns c = plans_have_few_calls
