use Rattle.partial_machine.proofs.Behind.{answers_lead_on}
use Rattle.partial_machine.proofs.law.answers_lead_on.Goals as goal

pub returns : goal.returns
returns c = answers_lead_on
