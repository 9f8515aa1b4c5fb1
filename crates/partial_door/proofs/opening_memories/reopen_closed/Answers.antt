use Rattle.partial_door.proofs.{Common.{◌≤◌, length, ap, refl, subst, sym, ◌∙◌, if_ok_then, Layout, pool_base, MemoryView}, OpenedOpening.{are_its, opened_is}}
use Rattle.partial_memory.specs.Reopening.{ContinuesAll, extended_values}
use Rattle.partial_door.proofs.opening_memories.reopen_closed.Goals as goal

pub with_ports-requires-clause-of : goal.with_ports-requires-clause-of
with_ports-requires-clause-of c = are_its _ _ _ _ refl c.in-Ok.ensures.about.1 c.in-Ok.ensures.ports

pub returns-in-Ok-clause-ok : goal.returns-in-Ok-clause-ok
returns-in-Ok-clause-ok c =
    let opened = c.in-Ok.ensures in
    let laid = c.in_ok-sizes.ensures.ok.0 in
    let values = c.args.closed.now.values.items in
    let extends = opened.values ∙ ap (λ (z : Layout). extended_values z.m values) laid in
    let first = opened.first ∙ ap pool_base laid in
    if_ok_then c.with_ports.result _ _
    (λ b x. (
      x.0,
      x.1,
      subst (λ (z : Layout). length values ≤ z.m) laid opened.fits,
      opened_is x.0 _ _ _ _ _ x.4 x.2 x.3 (opened.about.0 ∙ laid) opened.about.1 extends first (x.5 ∙ opened.ports),
      subst (λ (v : MemoryView). ContinuesAll values v.about.opening) (sym x.4) opened.continues,
    )) c.with_ports.ensures.ok
