use Rattle.partial_epochs.proofs.SeenRecords.{seen_records_stay}
use Rattle.partial_epochs.proofs.law.seen_records_stay.Goals as goal

pub returns : goal.returns
returns c = seen_records_stay
