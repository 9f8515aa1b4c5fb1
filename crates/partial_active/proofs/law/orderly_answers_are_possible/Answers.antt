use Rattle.partial_active.proofs.Active.{possible_by_events}
use Rattle.partial_active.proofs.law.orderly_answers_are_possible.Goals as goal

pub returns : goal.returns
returns c = possible_by_events
