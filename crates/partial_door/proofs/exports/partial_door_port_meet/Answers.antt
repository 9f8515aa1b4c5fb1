use Rattle.partial_door.proofs.Common.{refl, inl}
use Rattle.partial_door.proofs.exports.partial_door_port_meet.Goals as goal

pub returns : goal.returns
returns c = inl (_, _, _, _, c.in-Some.ensures.lent, c.in-Some-held.ensures.lent, refl, refl, c.meet.ensures)
