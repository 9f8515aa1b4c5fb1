use Rattle.std.proofs.Common.{tests}
use Rattle.partial_door.proofs.{Common.{rules, refl, sym, inl, inr}, OpenedOpening.last_of}
use Rattle.partial_long_lived.specs.Ports.{IsOf}
use Rattle.partial_door.proofs.held.Held.take_port.Goals as goal

pub invariant_of-own-clause-of : goal.invariant_of-own-clause-of
invariant_of-own-clause-of c = last_of IsOf _ _ _ _ _ c.in-Some.ensures.items c.in-Memory.open.of c.in-Ok-try_clone.ensures

pub returns-clause-ok : goal.returns-clause-ok
returns-clause-ok c = (
  c.in-Memory.open,
  _,
  _,
  c.in-Memory.is,
  refl,
  c.replace.ensures.after,
  record { number = refl; count = refl; memory = refl },
  c.in-Some.ensures.items,
  refl,
  c.in-Ok-try_clone.ensures,
)

pub returns-then-is_empty-clause-err : goal.returns-then-is_empty-clause-err
returns-then-is_empty-clause-err c = (sym c.in-Memory.is, inr (inl (c.in-Memory.open, c.in-Memory.is, search rules, refl)))

pub returns-in_default-boxed-clause-err : goal.returns-in_default-boxed-clause-err
returns-in_default-boxed-clause-err c = (sym c.in-Memory.is, inr (inr (c.in-Memory.open, c.in-Memory.is, search rules, refl)))

pub returns-in_default-try_clone-clause-err : goal.returns-in_default-try_clone-clause-err
returns-in_default-try_clone-clause-err c = (sym c.in-Memory.is, inr (inr (c.in-Memory.open, c.in-Memory.is, search rules, refl)))

pub invariant_of-own-clause-size : goal.invariant_of-own-clause-size
invariant_of-own-clause-size c = search (tests, rules)
