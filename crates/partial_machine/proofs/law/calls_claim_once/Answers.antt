use Rattle.partial_machine.proofs.Claims.{calls_claim_once}
use Rattle.partial_machine.proofs.law.calls_claim_once.Goals as goal

pub returns : goal.returns
returns c = calls_claim_once
