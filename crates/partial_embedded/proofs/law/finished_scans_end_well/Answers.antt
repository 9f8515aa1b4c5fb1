use Rattle.partial_embedded.proofs.Ends.{finished_scans_end_well}
use Rattle.partial_embedded.proofs.law.finished_scans_end_well.Goals as goal

pub returns : goal.returns
returns c = finished_scans_end_well
