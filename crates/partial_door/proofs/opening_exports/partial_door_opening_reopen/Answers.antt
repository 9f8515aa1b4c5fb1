use Rattle.partial_door.proofs.Common.{rules, refl, inl, inr}
use Rattle.partial_door.proofs.opening_exports.partial_door_opening_reopen.Goals as goal

pub returns-in-Some-clause-opened : goal.returns-in-Some-clause-opened
returns-in-Some-clause-opened c = inl (c.in-Some.held.value, c.in-Some.ensures.taken, c.put.ensures, refl)

pub returns-in-Ok-clause-opened : goal.returns-in-Ok-clause-opened
returns-in-Ok-clause-opened c =
    inr (inr (inl (
      c.deref.result.now,
      c.in-Ok.held.value,
      c.in_default.ensures.taken,
      c.put-in-Ok.ensures,
      search rules,
      refl,
      c.in-Ok.ensures.ok,
    )))

pub returns-in-Err-clause-opened : goal.returns-in-Err-clause-opened
returns-in-Err-clause-opened c =
    inr (inr (inr (c.deref.result.now, c.in_default.ensures.taken, search rules, search rules, c.in-Err.ensures.err)))
