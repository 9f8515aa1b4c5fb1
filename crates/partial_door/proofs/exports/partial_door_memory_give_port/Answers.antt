use Rattle.partial_door.proofs.Common.{refl, inl, inr, ap, sym, ◌∙◌, Some}
use Rattle.partial_door.proofs.exports.partial_door_memory_give_port.Goals as goal

pub returns-in-Ok : goal.returns-in-Ok
returns-in-Ok c =
    inl (
      _,
      _,
      c.in-Some-take.own.value,
      c.in-Some.ensures.lent,
      c.in-Some-take.ensures.taken,
      refl,
      c.in-Some-take.ensures.left,
      refl,
      c.in-Ok.ensures.ok,
    )

pub returns-in-Err : goal.returns-in-Err
returns-in-Err c =
    inr (inl (
      _,
      _,
      c.in-Some-take.own.value,
      c.in-Some.ensures.lent,
      c.in-Some-take.ensures.taken,
      refl,
      c.put.ensures ∙ ap Some c.in-Err.ensures.err.0 ∙ sym c.in-Some-take.ensures.taken,
      c.in-Err.ensures.err.1,
      c.in-Err.ensures.err.2,
    ))
