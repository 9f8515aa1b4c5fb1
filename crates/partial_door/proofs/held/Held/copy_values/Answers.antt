use Rattle.partial_door.proofs.Common.{rules, refl, inl, inr}
use Rattle.partial_door.proofs.held.Held.copy_values.Goals as goal

pub returns : goal.returns
returns c = inl (c.in-Closed.closed, c.in-Closed.is, refl, search rules)

pub returns-then-len-into : goal.returns-then-len-into
returns-then-len-into c = inr (inr (c.in-Closed.closed, c.in-Closed.is, search rules, refl, refl))
