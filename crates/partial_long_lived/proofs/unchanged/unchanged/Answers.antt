use Rattle.partial_long_lived.proofs.{Common.{◌<◌, sym, ap, ◌∙◌, arith, slice_index, Plan, About, port_at}, Collects.glanced_idle, DoubleCollect.settled_on, StillStanding.had_more}
use Rattle.partial_long_lived.proofs.unchanged.unchanged.Goals as goal

pub returns-then-stamp_now-stamps-clause-settled : goal.returns-then-stamp_now-stamps-clause-settled
returns-then-stamp_now-stamps-clause-settled c = settled_on _ _ _ c.loop-k.invariant.settled c.stamp_now.ensures.glanced

pub loop-k-preserved : goal.loop-k-preserved
loop-k-preserved c =
    let w = c.loop-k.invariant in
    let n = c.stamp_now.ensures in
    let low = c.if-which-k.false in
    let m = c.m.ensures.value ∙ sym (ap (λ (e : Plan). e.sizes.m) w.held.shape) in
    let own = ap (λ (a : About). a.sizes.m) n.held.own in
    let below : slice_index c.args.which.now c.loop-k.k < (port_at c.stamp_now.new.stand).about.sizes.m = omega (arith, low, m, own) in record {
      held = n.held;
      idle = glanced_idle _ _ w.idle n.glanced;
      settled = settled_on _ _ _ w.settled n.glanced;
      had = had_more _ _ n.glanced _ _ _ _ below n.stamp c.if-stamp_now-stamps.false w.had;
      steps = let so_far = w.steps in let two = n.steps in omega (arith, so_far, two);
    }
