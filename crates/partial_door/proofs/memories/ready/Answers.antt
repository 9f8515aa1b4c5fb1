use Rattle.std.proofs.Common.{rules, tests}
use Rattle.partial_door.proofs.Common.{◌∙◌, refl, sym, ap, subst, inl, inr, IsUnready, Held}
use Rattle.partial_door.proofs.memories.ready.Goals as goal

pub returns-in-Err-Away-clause-err : goal.returns-in-Err-Away-clause-err
returns-in-Err-Away-clause-err c =
    let own = c.in-Memory.open in
    let kept = subst (IsUnready own) c.in-Err-Away.field-0-is c.in-Err-Away.ensures.err in
    (ap Held.Memory kept.0 ∙ sym c.in-Memory.is, inr (inr (inl (own, c.in-Memory.is, refl, kept.1))))

pub returns-in-Err-Shared-clause-err : goal.returns-in-Err-Shared-clause-err
returns-in-Err-Shared-clause-err c =
    let own = c.in-Memory.open in
    let kept = subst (IsUnready own) c.in-Err-Shared.field-0-is c.in-Err-Shared.ensures.err in
    (ap Held.Memory kept.0 ∙ sym c.in-Memory.is, inr (inr (inr (own, c.in-Memory.is, refl, kept.1))))

pub returns-then-closing-room-clause-err : goal.returns-then-closing-room-clause-err
returns-then-closing-room-clause-err c = search (tests, rules)
