use Rattle.std.proofs.Common.{arith}
use Rattle.partial_door.proofs.Common.{rules, refl, inl, inr}
use Rattle.partial_door.proofs.held.Held.unchanged.Goals as goal

pub returns-then-stamps-which : goal.returns-then-stamps-which
returns-then-stamps-which c =
    inr (c.in-Port.own, c.in-Port.own, c.in-Port.is, search rules, record { number = refl; memory = refl }, (omega arith, inr (inr (c.code.ensures, c.if-stamps-which.true, refl, refl))))

pub returns-then-unchanged : goal.returns-then-unchanged
returns-then-unchanged c =
    inr (c.in-Port.own, _, c.in-Port.is, refl, record { number = refl; memory = refl }, (search rules, inl (c.if-stamps-which.false, refl, refl, c.unchanged.ensures.still c.if-unchanged.true)))

pub returns-else-unchanged : goal.returns-else-unchanged
returns-else-unchanged c =
    inr (c.in-Port.own, _, c.in-Port.is, refl, record { number = refl; memory = refl }, (search rules, inr (inl (c.if-stamps-which.false, refl, refl, c.unchanged.ensures.differ c.if-unchanged.false))))
