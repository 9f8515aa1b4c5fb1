use Rattle.partial_door.proofs.Common.{refl, if_ok_then}
use Rattle.partial_door.proofs.memories.with_ports.Goals as goal

pub returns-clause-ok : goal.returns-clause-ok
returns-clause-ok c = if_ok_then c.boxed.result _ _ (λ b is. (_, is, refl, refl, c.in-Ok.ensures.ok, refl)) c.boxed.ensures.ok
