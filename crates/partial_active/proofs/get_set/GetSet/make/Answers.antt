use Rattle.std.proofs.Common.{rules, tests}
use Rattle.partial_active.proofs.Common.{◌∙◌}
use Rattle.partial_active.proofs.get_set.GetSet.make.Goals as goal

pub returns-in_err-make_stretch-2-clause-follows : goal.returns-in_err-make_stretch-2-clause-follows
returns-in_err-make_stretch-2-clause-follows g c =
    let on = g.met.S.Steps.follows_on in
    on _ _ _ c.make_stretch.ensures.follows c.make_stretch-2.ensures.follows

pub returns-in_err-make_stretch-3-clause-follows : goal.returns-in_err-make_stretch-3-clause-follows
returns-in_err-make_stretch-3-clause-follows g c =
    let on = g.met.S.Steps.follows_on in
    on _ _ _ (on _ _ _ c.make_stretch.ensures.follows c.make_stretch-2.ensures.follows) c.make_stretch-3.ensures.follows

pub returns-in_err-make_stretch-4-clause-follows : goal.returns-in_err-make_stretch-4-clause-follows
returns-in_err-make_stretch-4-clause-follows g c =
    let on = g.met.S.Steps.follows_on in
    on _ _ _ (on _ _ _ (on _ _ _ c.make_stretch.ensures.follows c.make_stretch-2.ensures.follows) c.make_stretch-3.ensures.follows) c.make_stretch-4.ensures.follows

-- the stretches leave the steps at the getSet
pub loop-step-init : goal.loop-step-init
loop-step-init g c =
    let on = g.met.S.Steps.follows_on in
    record {
      at = c.make_stretch-4.ensures.at;
      follows = on _ _ _ (on _ _ _ (on _ _ _ c.make_stretch.ensures.follows c.make_stretch-2.ensures.follows) c.make_stretch-3.ensures.follows) c.make_stretch-4.ensures.follows;
      sizes = c.make_stretch-4.ensures.sizes ∙ c.make_stretch-3.ensures.sizes ∙ c.make_stretch-2.ensures.sizes ∙ c.make_stretch.ensures.sizes;
    }

pub loop-step-preserved : goal.loop-step-preserved
loop-step-preserved g c = record {
  at = c.make_step.ensures.at;
  follows = g.met.S.Steps.follows_on _ _ _ c.loop-step.invariant.follows c.make_step.ensures.follows;
  sizes = c.make_step.ensures.sizes ∙ c.loop-step.invariant.sizes;
}

pub returns-in_err-make_step-clause-follows : goal.returns-in_err-make_step-clause-follows
returns-in_err-make_step-clause-follows g c = g.met.S.Steps.follows_on _ _ _ c.loop-step.invariant.follows c.make_step.ensures.follows

pub returns-clause-done : goal.returns-clause-done
returns-clause-done g c = search (tests, rules)
