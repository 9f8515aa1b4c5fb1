use Rattle.partial_machine.proofs.ScanCounts.{scans_make_their_steps}
use Rattle.partial_machine.proofs.law.scans_make_their_steps.Goals as goal

pub returns : goal.returns
returns c = scans_make_their_steps
