use Rattle.partial_machine.proofs.Components.{embedded_scans_end_well}
use Rattle.partial_machine.proofs.law.embedded_scans_end_well.Goals as goal

pub returns : goal.returns
returns c = embedded_scans_end_well
