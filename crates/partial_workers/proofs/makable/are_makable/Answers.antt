use Rattle.partial_workers.proofs.{Common.{◌<◌, ◌^◌, length, refl, subst, arith, AllByRecursion, IsCallWithin}, Pairs.all_next}
use Rattle.partial_workers.proofs.makable.are_makable.Goals as goal

pub loop-calls-preserved : goal.loop-calls-preserved
loop-calls-preserved c =
    let own = c.calls-item.result in
    let few : length own < 2 ^ 32 = omega (arith, c.len.ensures, c.if-len.false) in
    let within = subst (AllByRecursion (IsCallWithin c.args.m)) c.as_slice.ensures (c.are_within.ensures.yes c.if-not-are_within.false) in
    record {
      makable = all_next (λ cs. (length cs < 2 ^ 32) × AllByRecursion (IsCallWithin c.args.m) cs) c.loop-calls.calls-index _ c.args.ports.now own c.loop-calls-test.true c.calls-item.is refl
          c.loop-calls.invariant.makable (few, within);
    }
