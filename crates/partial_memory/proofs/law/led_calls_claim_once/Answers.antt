use Rattle.partial_memory.proofs.Led.{led_calls_claim_once}
use Rattle.partial_memory.proofs.law.led_calls_claim_once.Goals as goal

pub returns : goal.returns
returns c = led_calls_claim_once
