use Rattle.memory_tests.proofs.{Common.{sym, subst, AllByRecursion, newcomers, IsOf, new_ports, opened_ports_are_all}, Ports.both}
use Rattle.memory_tests.proofs.reopenings.reopened.Goals as goal

pub returns : goal.returns
returns c = both c.reopen.result _ _ _ (λ r a p. subst (AllByRecursion (IsOf r.0)) (sym p) ((opened_ports_are_all r.0 c.args.ports a.1).own)) c.reopen.ensures.about c.reopen.ensures.ports
