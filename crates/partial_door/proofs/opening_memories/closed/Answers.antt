use Rattle.std.proofs.Common.{tests}
use Rattle.partial_door.proofs.Common.{rules, ◌∙◌, refl, sym, ap, subst, inl, inr, IsOpeningKept, Held}
use Rattle.partial_door.proofs.opening_memories.closed.Goals as goal

pub returns-in-Err-Away-clause-err : goal.returns-in-Err-Away-clause-err
returns-in-Err-Away-clause-err c =
    let own = c.in-OpeningMemory.open in
    let kept = subst (IsOpeningKept own) c.in-Err-Away.field-0-is c.in-Err-Away.ensures.err in
    (ap Held.OpeningMemory kept.0 ∙ sym c.in-OpeningMemory.is, inr (inl (own, c.in-OpeningMemory.is, refl, kept.1)))

pub returns-in-Err-Shared-clause-err : goal.returns-in-Err-Shared-clause-err
returns-in-Err-Shared-clause-err c =
    let own = c.in-OpeningMemory.open in
    let kept = subst (IsOpeningKept own) c.in-Err-Shared.field-0-is c.in-Err-Shared.ensures.err in
    (ap Held.OpeningMemory kept.0 ∙ sym c.in-OpeningMemory.is, inr (inr (own, c.in-OpeningMemory.is, refl, kept.1)))

pub returns-in-Err-Lost-clause-err : goal.returns-in-Err-Lost-clause-err
returns-in-Err-Lost-clause-err c = (c.in-OpeningMemory.open, search rules, search rules)

pub returns-in-Ok-clause-ok : goal.returns-in-Ok-clause-ok
returns-in-Ok-clause-ok c = let h0 = c.in-Ok.ensures in search (tests, rules)
