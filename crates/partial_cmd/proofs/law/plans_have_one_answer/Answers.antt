use Rattle.partial_cmd.proofs.OneAnswer as one
use Rattle.partial_cmd.proofs.law.plans_have_one_answer.Goals as goal

pub returns : goal.returns
returns c = one.plans_have_one_answer
