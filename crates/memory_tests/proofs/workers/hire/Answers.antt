use Rattle.memory_tests.proofs.{Common.{rules, ◌≡◌, [], ◌∷◌, ◌++◌, sym, subst, IfSome, Vec, Global, All, AllByRecursion, All-push, PortView, IsOf}, Ports.popped}
use Rattle.memory_tests.specs.declared.workers.Worker.{Worker}
use Rattle.partial_memory.specs.declared.port.Port.{Port}
use Rattle.memory_tests.proofs.workers.hire.Goals as goal
use Rattle.memory_tests.proofs.workers.hire.Goals.{in-Meet, in_default-job}

pub loop-preserved : goal.loop-preserved
loop-preserved c =
    let O : PortView → Type 0 = IsOf c.args.memory.now in
    let P : Worker → Type 0 = λ w. O w.port × IfSome w.other O in
    let first = popped O _ _ _ c.loop.invariant.ports c.pop.ensures.items in
    let one : O c.in-Some.port = subst (λ r. IfSome r O) c.in-Some.is first.1 in
    let left : AllByRecursion O c.match-job.ports.items × IfSome c.match-job.other O =
    elim c.match-job.branch [
      | in-Meet w ↦
          let second = popped O _ _ _ first.0 w.pop-other.ensures.items in
          (subst (λ (v : Vec Port Global). AllByRecursion O v.items) (sym w.ports-is) second.0, subst (λ r. IfSome r O) (sym w.other-is) second.1)
      | in_default-job w ↦ (subst (λ (v : Vec Port Global). AllByRecursion O v.items) (sym w.ports-is) first.0, subst (λ r. IfSome r O) (sym w.other-is) tt)
    ] in
    let hired : P c.new.result = (subst O (sym c.new.ensures.0) one, subst (λ r. IfSome r O) (sym c.new.ensures.1) left.1) in
    let put : c.push.new.self.items ≡ c.loop.workers.items ++ c.new.result ∷ [] = search rules in
    record {
      ports = left.0;
      workers = subst (All P) (sym put) (All-push P c.loop.workers.items c.new.result c.loop.invariant.workers hired);
    }
