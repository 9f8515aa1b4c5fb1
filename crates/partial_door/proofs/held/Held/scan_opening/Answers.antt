use Rattle.partial_door.proofs.{Common.{rules, refl, inl, inr, MemoryView}, OpenedOpening.more}
use Rattle.partial_door.proofs.held.Held.scan_opening.Goals as goal

pub returns-in-Ok : goal.returns-in-Ok
returns-in-Ok c = inr (c.in-OpeningPort.own, _, c.in-OpeningPort.is, refl, record { opening = refl; memory = refl }, inl (c.in-Ok.scanned, refl, search rules, search rules))

pub returns-in-Err : goal.returns-in-Err
returns-in-Err c = inr (c.in-OpeningPort.own, _, c.in-OpeningPort.is, refl, record { opening = refl; memory = refl }, inr (search rules, refl, inr (c.in-Err.cause, search rules, search rules)))

pub returns-then-which-into : goal.returns-then-which-into
returns-then-which-into c = inr (c.in-OpeningPort.own, c.in-OpeningPort.own, c.in-OpeningPort.is, search rules, record { opening = refl; memory = refl }, inr (refl, refl, inl (c.code.ensures, inl c.if-which-into.true, refl)))

pub returns-then-which-own : goal.returns-then-which-own
returns-then-which-own c =
    let own = c.in-OpeningPort.own in
    let many = more (λ (v : MemoryView). v.about.sizes.m) _ _ _ _ own.size own.of c.if-which-own.true in
    inr (own, own, c.in-OpeningPort.is, search rules, record { opening = refl; memory = refl }, inr (refl, refl, inl (c.code-then-which-own.ensures, inr many, refl)))
