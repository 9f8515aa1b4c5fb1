use Rattle.partial_active.proofs.Lists.{lists_by_events}
use Rattle.partial_active.proofs.law.keeps_vacated_lists.Goals as goal

pub returns : goal.returns
returns c = lists_by_events
