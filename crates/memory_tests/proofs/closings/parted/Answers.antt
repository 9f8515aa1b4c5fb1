use Rattle.memory_tests.proofs.Common.{rules, subst, IfSome, All-pop, IsOf, PortView}
use Rattle.memory_tests.specs.declared.workers.Worker.{Worker}
use Rattle.memory_tests.proofs.closings.parted.Goals as goal

pub part-requires-clause-own : goal.part-requires-clause-own
part-requires-clause-own c =
    let O : PortView → Type 0 = IsOf c.args.memory.now in
    let P : Worker → Type 0 = λ w. O w.port × IfSome w.other O in
    subst (λ r. IfSome r P) c.in-Some.is (All-pop P _ _ _ c.pop.ensures.items c.loop-worker.invariant.workers).1

pub loop-worker-preserved : goal.loop-worker-preserved
loop-worker-preserved c =
    let O : PortView → Type 0 = IsOf c.args.memory.now in
    let P : Worker → Type 0 = λ w. O w.port × IfSome w.other O in
    record {
      ports = search rules;
      workers = (All-pop P _ _ _ c.pop.ensures.items c.loop-worker.invariant.workers).0;
    }
