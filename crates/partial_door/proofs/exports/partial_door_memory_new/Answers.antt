use Rattle.partial_long_lived.specs.declared.options.Options.{Options}
use Rattle.partial_door.specs.Memories.{HoldsNew, MayNotBeNew}
use Rattle.partial_door.proofs.Common.{refl, inl, inr, subst}
use Rattle.partial_door.proofs.exports.partial_door_memory_new.Goals as goal

pub returns-in-Some : goal.returns-in-Some
returns-in-Some c = inl (c.in-Some.held.value, c.in-Some.ensures.taken, c.put.ensures, refl)

pub returns-in-Ok : goal.returns-in-Ok
returns-in-Ok c =
    let new = subst (λ (o : Options). HoldsNew c.args.number c.args.initial.now c.args.ports o c.in-Ok.held.value) c.options_for.ensures c.in-Ok.ensures.ok in
    inr (inl (c.in-Ok.held.value, c.in_default.ensures.taken, c.put-in-Ok.ensures, refl, new))

pub returns-in-Err : goal.returns-in-Err
returns-in-Err c =
    let cause = subst (λ (o : Options). MayNotBeNew c.args.initial.now c.args.ports o c.in-Err.code) c.options_for.ensures c.in-Err.ensures.err in
    inr (inr (c.in_default.ensures.taken, c.take.ensures.left, cause))
