use Rattle.partial_active.proofs.{Active.steps_by_events, Finds.finds_by_events}
use Rattle.partial_active.proofs.law.finds_the_active_set.Goals as goal

pub returns-clause-finds : goal.returns-clause-finds
returns-clause-finds c = finds_by_events

pub returns-clause-steps : goal.returns-clause-steps
returns-clause-steps c = steps_by_events
