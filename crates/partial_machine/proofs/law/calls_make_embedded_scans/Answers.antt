use Rattle.partial_machine.proofs.Components.{calls_make_embedded_scans}
use Rattle.partial_machine.proofs.law.calls_make_embedded_scans.Goals as goal

pub returns : goal.returns
returns c = calls_make_embedded_scans
