use Rattle.partial_machine.proofs.StepCounts.{stays_sound}
use Rattle.partial_machine.proofs.law.machines_stay_sound.Goals as goal

pub returns : goal.returns
returns c = stays_sound
