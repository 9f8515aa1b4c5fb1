use Rattle.partial_workers.proofs.{Common.{refl, IsCallWithin}, Pairs.all_next}
use Rattle.partial_workers.proofs.makable.are_within.Goals as goal

pub loop-call-preserved : goal.loop-call-preserved
loop-call-preserved c = record {
  within = all_next (IsCallWithin c.args.m) c.loop-call.call-index _ c.args.calls.now c.call-item.result c.loop-call-test.true c.call-item.is refl
      c.loop-call.invariant.within (c.is_within.ensures.yes c.if-not-is_within.false);
}
