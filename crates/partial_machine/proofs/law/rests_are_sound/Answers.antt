use Rattle.partial_machine.proofs.Begins.{rests_are_sound}
use Rattle.partial_machine.proofs.law.rests_are_sound.Goals as goal

pub returns : goal.returns
returns c = rests_are_sound
