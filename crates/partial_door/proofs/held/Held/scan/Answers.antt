use Rattle.std.proofs.Common.{arith}
use Rattle.partial_door.proofs.{Common.{rules, refl, inl, inr}, OpenedOpening.more}
use Rattle.partial_long_lived.specs.Ports.{MemoryView}
use Rattle.partial_door.proofs.held.Held.scan.Goals as goal

pub returns-in-Ok : goal.returns-in-Ok
returns-in-Ok c = inr (c.in-Port.own, _, c.in-Port.is, refl, record { number = refl; memory = refl }, (search rules, inl (c.in-Ok.scanned, refl, search rules, search rules)))

pub returns-in-Err : goal.returns-in-Err
returns-in-Err c =
    let cause = c.in-Err.cause in
    inr (c.in-Port.own, _, c.in-Port.is, refl, record { number = refl; memory = refl }, (search rules, inr (search rules, refl, inr (cause, search rules, search rules))))

pub returns-then-which-into : goal.returns-then-which-into
returns-then-which-into c =
    let own = c.in-Port.own in
    inr (own, own, c.in-Port.is, search rules, record { number = refl; memory = refl }, (omega arith, inr (refl, refl, inl (c.code.ensures, inl c.if-which-into.true, refl))))

pub returns-then-which-own : goal.returns-then-which-own
returns-then-which-own c =
    let own = c.in-Port.own in
    let many = more (λ (v : MemoryView). v.about.sizes.m) _ _ _ _ own.size own.of c.if-which-own.true in
    inr (own, own, c.in-Port.is, search rules, record { number = refl; memory = refl }, (omega arith, inr (refl, refl, inl (c.code-then-which-own.ensures, inr many, refl))))
