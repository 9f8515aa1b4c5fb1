use Rattle.partial_epochs.proofs.Last.{components_name_records}
use Rattle.partial_epochs.proofs.law.components_name_records.Goals as goal

pub returns : goal.returns
returns c = components_name_records
