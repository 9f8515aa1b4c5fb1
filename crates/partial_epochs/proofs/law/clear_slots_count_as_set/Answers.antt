use Rattle.partial_epochs.proofs.Sets.{clear_slots_count_as_set}
use Rattle.partial_epochs.proofs.law.clear_slots_count_as_set.Goals as goal

pub returns : goal.returns
returns c = clear_slots_count_as_set
