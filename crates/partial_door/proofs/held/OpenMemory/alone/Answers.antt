use Rattle.partial_long_lived.specs.Ports.{IsOf}
use Rattle.partial_door.proofs.{OpenedOpening.{front_of, last_of}, Opened.count_of}
use Rattle.partial_door.proofs.held.OpenMemory.alone.Goals as goal

pub invariant_of-result-2-clause-values : goal.invariant_of-result-2-clause-values
invariant_of-result-2-clause-values c = count_of _ _ _ c.args.self.values c.in-Ok.ensures.ok

pub invariant_of-result-2-clause-of : goal.invariant_of-result-2-clause-of
invariant_of-result-2-clause-of c = last_of IsOf _ _ _ _ _ c.in-Some.ensures.items c.args.self.of c.in-Ok.ensures.ok

pub invariant_of-result-2-clause-others : goal.invariant_of-result-2-clause-others
invariant_of-result-2-clause-others c = front_of IsOf _ _ _ _ _ c.in-Some.ensures.items c.args.self.of c.in-Ok.ensures.ok
