use Rattle.partial_memory.proofs.Led.{late_refusals_are_past_end}
use Rattle.partial_memory.proofs.law.late_refusals_are_past_end.Goals as goal

pub returns : goal.returns
returns c = late_refusals_are_past_end
