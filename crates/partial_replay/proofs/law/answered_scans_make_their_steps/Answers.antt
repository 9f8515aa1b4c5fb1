use Rattle.partial_replay.proofs.ScanSteps.{answered_scans_make_their_steps}
use Rattle.partial_replay.proofs.law.answered_scans_make_their_steps.Goals as goal

pub returns : goal.returns
returns c = answered_scans_make_their_steps
