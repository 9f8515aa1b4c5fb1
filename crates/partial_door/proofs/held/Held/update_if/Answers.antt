use Rattle.partial_door.proofs.Common.{rules, refl, inl, inr}
use Rattle.partial_door.proofs.held.Held.update_if.Goals as goal

pub returns-in-Ok : goal.returns-in-Ok
returns-in-Ok c = inr (c.in-Port.own, _, c.in-Port.is, refl, record { number = refl; memory = refl }, (search rules, inl (c.in-Ok.updated, refl, search rules, search rules)))

pub returns-in-Err : goal.returns-in-Err
returns-in-Err c = inr (c.in-Port.own, _, c.in-Port.is, refl, record { number = refl; memory = refl }, (search rules, inr (c.in-Err.cause, search rules, refl, search rules)))
