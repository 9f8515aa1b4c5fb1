use Rattle.partial_door.proofs.Common.{rules, ◌∙◌, ap, sym, refl, inl, inr, ◌++◌, ◌∷◌, [], List}
use Rattle.partial_memory.specs.Ports.{PortView}
use Rattle.partial_door.proofs.held.Held.give_opening_port.Goals as goal

pub returns-then-is_err-clause-err : goal.returns-then-is_err-clause-err
returns-then-is_err-clause-err c = (
  refl,
  inr (c.in-OpeningMemory.open, _, c.in-OpeningMemory.is, refl, record { opening = refl; count = refl; memory = refl }, c.reserve.ensures.items),
  inr (inr (inr (c.in-OpeningMemory.open, c.in-OpeningPort.own, c.in-OpeningMemory.is, search rules, search rules, refl))),
)

pub returns-clause-ok : goal.returns-clause-ok
returns-clause-ok c = (
  c.in-OpeningMemory.open,
  _,
  c.into_opening_port-own.result,
  c.in-OpeningMemory.is,
  refl,
  sym c.into_inner.ensures ∙ c.into_opening_port-own.ensures,
  search rules,
  record { opening = refl; count = refl; memory = refl },
  c.push_reserved.ensures.items ∙ ap (λ (xs : List PortView). xs ++ c.into_opening_port-own.result.port ∷ []) c.reserve.ensures.items,
)

pub returns-then-own-open-clause-err : goal.returns-then-own-open-clause-err
returns-then-own-open-clause-err c =
    (refl, inl (sym c.in-OpeningMemory.is), inr (inr (inl (c.in-OpeningMemory.open, c.in-OpeningPort.own, c.in-OpeningMemory.is, search rules, search rules, refl))))

pub into_opening_port-own-requires : goal.into_opening_port-own-requires
into_opening_port-own-requires c = (c.in-OpeningPort.own, c.into_inner.ensures ∙ sym c.deref.ensures ∙ c.in-OpeningPort.is)
