use Rattle.partial_door.proofs.Common.{rules, ◌∙◌, ap, sym, refl, inl, inr, PortView, ◌++◌, ◌∷◌, [], List}
use Rattle.partial_door.proofs.held.Held.give_port.Goals as goal

pub returns-then-is_err-clause-err : goal.returns-then-is_err-clause-err
returns-then-is_err-clause-err c = (
  refl,
  inr (c.in-Memory.open, _, c.in-Memory.is, refl, record { number = refl; count = refl; memory = refl }, c.reserve.ensures.items),
  inr (inr (inr (c.in-Memory.open, c.in-Port.own, c.in-Memory.is, search rules, search rules, refl))),
)

pub returns-clause-ok : goal.returns-clause-ok
returns-clause-ok c = (
  c.in-Memory.open,
  _,
  c.into_port-own.result,
  c.in-Memory.is,
  refl,
  sym c.into_inner.ensures ∙ c.into_port-own.ensures,
  search rules,
  record { number = refl; count = refl; memory = refl },
  c.push_reserved.ensures.items ∙ ap (λ (xs : List PortView). xs ++ c.into_port-own.result.port ∷ []) c.reserve.ensures.items,
)

pub returns-then-own-open-clause-err : goal.returns-then-own-open-clause-err
returns-then-own-open-clause-err c =
    (refl, inl (sym c.in-Memory.is), inr (inr (inl (c.in-Memory.open, c.in-Port.own, c.in-Memory.is, search rules, search rules, refl))))

pub into_port-own-requires : goal.into_port-own-requires
into_port-own-requires c = (c.in-Port.own, c.into_inner.ensures ∙ sym c.deref.ensures ∙ c.in-Port.is)
