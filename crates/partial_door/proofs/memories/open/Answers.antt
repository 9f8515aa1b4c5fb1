use Rattle.partial_door.proofs.{Common.{rules, inl, inr, if_ok_then, IfErr-weaker}, Opened.still_new}
use Rattle.partial_door.proofs.memories.open.Goals as goal

pub returns-in-Ok-clause-ok : goal.returns-in-Ok-clause-ok
returns-in-Ok-clause-ok c =
    let o = c.in-Ok.ensures in
    if_ok_then c.with_ports.result _ _
    (λ b x. (
      x.0,
      x.1,
      x.2,
      x.3,
      still_new _ _ _ _ _ _ _ x.4 x.5
          (record { sizes = o.sizes; limit = o.limit; announces = o.announces; many = o.about; values = o.values; first = o.first; held = o.ports }),
    )) c.with_ports.ensures.ok

pub returns-in-Ok-clause-err : goal.returns-in-Ok-clause-err
returns-in-Ok-clause-err c =
    let o = c.in-Ok.ensures in
    IfErr-weaker c.with_ports.result _ _
    (λ code x. inr (_, _, record { sizes = o.sizes; limit = o.limit; announces = o.announces; many = o.about; values = o.values; first = o.first; held = o.ports }, x)) c.with_ports.ensures.err

pub returns-in-Err-clause-err : goal.returns-in-Err-clause-err
returns-in-Err-clause-err c = inl (c.in-Err.fault, search rules, c.in-Err.ensures.refused)
