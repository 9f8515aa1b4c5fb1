use Rattle.partial_door.proofs.Common.{refl, inl}
use Rattle.partial_door.proofs.opening_exports.partial_door_opening_meet.Goals as goal

pub returns : goal.returns
returns c = inl (_, _, _, _, c.in-Some.ensures.lent, c.in-Some-held.ensures.lent, refl, refl, c.meet_opening.ensures)
