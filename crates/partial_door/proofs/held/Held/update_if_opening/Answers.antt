use Rattle.partial_door.proofs.Common.{rules, refl, inl, inr}
use Rattle.partial_memory.specs.declared.answers.UpdatedIf.TheVariants.{Applied, Changed}
use Rattle.partial_door.proofs.held.Held.update_if_opening.Goals as goal

pub returns-in-Ok-Applied : goal.returns-in-Ok-Applied
returns-in-Ok-Applied c = inr (c.in-OpeningPort.own, _, c.in-OpeningPort.is, refl, record { opening = refl; memory = refl }, inl (Applied c.in-Ok-Applied.stamp, refl, refl, search rules))

pub returns-in-Ok-Changed : goal.returns-in-Ok-Changed
returns-in-Ok-Changed c = inr (c.in-OpeningPort.own, _, c.in-OpeningPort.is, refl, record { opening = refl; memory = refl }, inl (Changed c.in-Ok-Changed.by, refl, refl, search rules))

pub returns-in-Err : goal.returns-in-Err
returns-in-Err c = inr (c.in-OpeningPort.own, _, c.in-OpeningPort.is, refl, record { opening = refl; memory = refl }, inr (c.in-Err.cause, search rules, refl, search rules))
