use Rattle.partial_active.proofs.Named.{names_by_events}
use Rattle.partial_active.proofs.law.names_indices_in_order.Goals as goal

pub returns : goal.returns
returns c = names_by_events
