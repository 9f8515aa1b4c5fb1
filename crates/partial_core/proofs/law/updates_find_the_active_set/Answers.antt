use Rattle.partial_core.proofs.ActiveRuns.{updates_find, updates_find_in_order}
use Rattle.partial_core.proofs.law.updates_find_the_active_set.Goals as goal

pub returns-clause-finds : goal.returns-clause-finds
returns-clause-finds c = updates_find

pub returns-clause-order : goal.returns-clause-order
returns-clause-order c = updates_find_in_order
