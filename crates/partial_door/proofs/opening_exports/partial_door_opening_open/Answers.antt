use Rattle.partial_door.proofs.Common.{refl, inl, inr}
use Rattle.partial_door.proofs.opening_exports.partial_door_opening_open.Goals as goal

pub returns-in-Some : goal.returns-in-Some
returns-in-Some c = inl (c.in-Some.held.value, c.in-Some.ensures.taken, c.put.ensures, refl)

pub returns-in-Ok : goal.returns-in-Ok
returns-in-Ok c = inr (inl (c.in-Ok.held.value, c.in_default.ensures.taken, c.put-in-Ok.ensures, refl, c.in-Ok.ensures.ok))
