use Rattle.partial_core.proofs.ActiveRuns.{updates_keep_lists}
use Rattle.partial_core.proofs.law.updates_keep_lists.Goals as goal

pub returns : goal.returns
returns c = updates_keep_lists
