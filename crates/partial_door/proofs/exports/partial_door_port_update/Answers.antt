use Rattle.partial_door.proofs.Common.{refl, inr}
use Rattle.partial_door.proofs.exports.partial_door_port_update.Goals as goal

pub returns : goal.returns
returns c = inr (_, _, c.in-Some.ensures.lent, refl, c.update.ensures)
