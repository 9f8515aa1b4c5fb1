use Rattle.partial_door.proofs.Common.{refl, sym, subst, ap, ◌∙◌, inl, inr, IsUnclosedOpening, Some}
use Rattle.partial_door.proofs.opening_exports.partial_door_opening_close.Goals as goal

pub returns-in-Ok : goal.returns-in-Ok
returns-in-Ok c = inr (inl (_, _, c.in-Some.ensures.lent, refl, refl, c.in-Ok.ensures.ok))

pub returns-in-Err-Kept : goal.returns-in-Err-Kept
returns-in-Err-Kept c =
    let kept = subst (IsUnclosedOpening _ _) c.in-Err-Kept.field-0-is c.in-Err-Kept.ensures.err in
    inr (inr (inl (_, c.in-Some.ensures.lent, ap Some kept.0 ∙ sym c.in-Some.ensures.lent, kept.1)))

pub returns-in-Err-Lost : goal.returns-in-Err-Lost
returns-in-Err-Lost c =
    inr (inr (inr (_, c.in-Some.ensures.lent, c.take.ensures.left, refl, subst (IsUnclosedOpening _ _) c.in-Err-Lost.field-0-is c.in-Err-Lost.ensures.err)))
