use Rattle.memory_tests.proofs.{Common.{subst, IfSome, IsOf}, Ports.popped}
use Rattle.memory_tests.proofs.memories.taken.Goals as goal

pub returns-in-Some-clause-port : goal.returns-in-Some-clause-port
returns-in-Some-clause-port c = subst (λ r. IfSome r (IsOf c.args.memory.now)) c.in-Some.is (popped (IsOf c.args.memory.now) _ _ _ c.requires c.pop.ensures.items).1

pub returns-in-Some-clause-left : goal.returns-in-Some-clause-left
returns-in-Some-clause-left c = (popped (IsOf c.args.memory.now) _ _ _ c.requires c.pop.ensures.items).0

pub returns-in-None-clause-left : goal.returns-in-None-clause-left
returns-in-None-clause-left c = (popped (IsOf c.args.memory.now) _ _ _ c.requires c.pop.ensures.items).0
