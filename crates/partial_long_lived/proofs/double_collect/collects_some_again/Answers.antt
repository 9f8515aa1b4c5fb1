use Rattle.partial_long_lived.proofs.{Common.{sym, ◌∙◌, arith}, Collects.{collects_same, glanced_by, glanced_idle, glanced_itself, glanced_on, glanced_seen}}
use Rattle.partial_long_lived.proofs.double_collect.collects_some_again.Goals as goal

pub loop-k-init : goal.loop-k-init
loop-k-init c = record {
  held = c.requires.held;
  base = c.requires.base;
  glanced = glanced_itself _ _ _ c.requires.held;
  idle = c.requires.idle;
  collected = λ low few before k less. before k (omega (arith, less));
  steps = omega arith;
}

pub returns-then-see-kept-clause-glanced : goal.returns-then-see-kept-clause-glanced
returns-then-see-kept-clause-glanced c = glanced_on _ _ _ c.loop-k.invariant.glanced (glanced_by _ _ _ _ c.see.ensures.kept c.see.ensures.sees)

pub loop-k-preserved : goal.loop-k-preserved
loop-k-preserved c =
    let w = c.loop-k.invariant in
    let g = c.see.ensures in
    let step = glanced_by _ _ _ _ g.kept g.sees in record {
      held = g.held;
      base = w.base ∙ sym g.kept.base;
      glanced = glanced_on _ _ _ w.glanced step;
      idle = glanced_idle _ _ w.idle step;
      collected = λ low few before k less.
          let more = glanced_seen _ _ w.glanced in
          collects_same _ _ _ _ _ _ _ g.kept g.sees c.if-see-kept.false (omega (arith, few, more)) (w.collected low few before) k (omega (arith, less));
      steps = let so_far = w.steps in let one = g.steps in omega (arith, so_far, one);
    }
