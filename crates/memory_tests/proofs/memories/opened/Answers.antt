use Rattle.memory_tests.proofs.{Common.{sym, subst, AllByRecursion, newcomers, IsOf, new_ports, opened_ports_are_all}, Ports.both}
use Rattle.memory_tests.proofs.memories.opened.Goals as goal

pub returns : goal.returns
returns c = both c.open.result _ _ _ (λ r a p. (a.0, subst (AllByRecursion (IsOf r.0)) (sym p) ((opened_ports_are_all r.0 c.args.ports a.1).own))) c.open.ensures.about c.open.ensures.ports
