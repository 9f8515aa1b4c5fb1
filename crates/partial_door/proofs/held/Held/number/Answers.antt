use Rattle.partial_door.proofs.Common.{refl, inr}
use Rattle.partial_door.proofs.held.Held.number.Goals as goal

pub returns-in-Port : goal.returns-in-Port
returns-in-Port c = inr (c.in-Port.own, c.in-Port.own, c.in-Port.is, c.in-Port.is, record { number = refl; memory = refl }, (refl, c.number.ensures.value, refl))
