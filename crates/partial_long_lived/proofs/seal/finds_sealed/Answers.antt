use Rattle.partial_long_lived.proofs.{Common.{subst, arith, IsEpochPlan, About, plan_of}, Asked.{pass_asked}, Standing.component_there}
use Rattle.partial_long_lived.proofs.seal.finds_sealed.Goals as goal

pub load-found-requires : goal.load-found-requires
load-found-requires c =
    let h = c.requires.held in
    let none = c.requires.first in
    let plan = subst (λ (a : About). IsEpochPlan (plan_of a)) h.own h.known.plan in
    let some = plan.sizes.components.0 in
    let there = component_there _ _ _ h 0 (omega (arith, some)) in
    (h.fits, omega (arith, there), pass_asked _ _ _ h c.requires.may.stands (omega (arith, none, some)) _ _ _ (omega (arith, none)))
