use Rattle.partial_door.proofs.Common.{refl, inr}
use Rattle.partial_door.proofs.opening_exports.partial_door_opening_read.Goals as goal

pub returns : goal.returns
returns c = inr (_, _, c.in-Some.ensures.lent, refl, c.read_opening.ensures)
