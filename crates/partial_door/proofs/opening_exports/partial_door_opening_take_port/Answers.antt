use Rattle.partial_door.proofs.Common.{rules, refl, sym, ◌∙◌, inl, inr}
use Rattle.partial_door.proofs.opening_exports.partial_door_opening_take_port.Goals as goal

pub returns-in-Some : goal.returns-in-Some
returns-in-Some c = inr (refl, c.put.ensures ∙ sym c.in-Some.ensures.taken, inl (_, c.in-Some.ensures.taken, refl))

pub returns-in-Ok : goal.returns-in-Ok
returns-in-Ok c =
    inl (
      c.deref_mut.result.now,
      _,
      _,
      search rules,
      c.in_default.ensures.taken,
      c.put-2.ensures,
      c.put-in-Ok.ensures,
      refl,
      c.in-Ok.ensures.ok,
    )

pub returns-in-Err : goal.returns-in-Err
returns-in-Err c =
    inr (search rules, search rules, inr (inr (c.deref_mut.result.now, c.in_default.ensures.taken, search rules, c.in-Err.ensures.err.1)))
