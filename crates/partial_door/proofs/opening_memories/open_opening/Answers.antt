use Rattle.partial_door.proofs.{Common.{ap, refl, ◌∙◌, if_ok_then, pool_base}, OpenedOpening.{are_its, opened_is}}
use Rattle.partial_door.proofs.opening_memories.open_opening.Goals as goal

pub with_ports-requires-clause-of : goal.with_ports-requires-clause-of
with_ports-requires-clause-of c = are_its _ _ _ _ refl c.in-Ok.ensures.about.1 c.in-Ok.ensures.ports

pub returns-in-Ok-clause-ok : goal.returns-in-Ok-clause-ok
returns-in-Ok-clause-ok c =
    let opened = c.in-Ok.ensures in
    let laid = c.in_ok-sizes.ensures.ok.0 in
    if_ok_then c.with_ports.result _ _
    (λ b x. (
      x.0,
      x.1,
      opened_is x.0 _ _ _ _ _ x.4 x.2 x.3 (opened.about.0 ∙ laid) opened.about.1 opened.values (opened.first ∙ ap pool_base laid) (x.5 ∙ opened.ports),
    )) c.with_ports.ensures.ok
