use Rattle.partial_memory.proofs.Led.{refusals_at_once_fit}
use Rattle.partial_memory.proofs.law.refusals_at_once_fit.Goals as goal

pub returns : goal.returns
returns c = refusals_at_once_fit
