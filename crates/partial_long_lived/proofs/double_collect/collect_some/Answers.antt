use Rattle.partial_long_lived.proofs.{Common.{◌+◌, ◌<◌, length, refl, sym, ◌∙◌, arith, length-set}, Collects.{collects_one, glanced_by, glanced_idle, glanced_itself, glanced_on}}
use Rattle.partial_long_lived.proofs.double_collect.collect_some.Goals as goal

pub loop-k-init : goal.loop-k-init
loop-k-init c = record {
  held = c.requires.held;
  base = c.requires.base;
  glanced = glanced_itself _ _ _ c.requires.held;
  idle = c.requires.idle;
  room = refl;
  collected = λ k less. c.requires.before k (omega (arith, less));
  steps = omega arith;
}

pub loop-k-preserved : goal.loop-k-preserved
loop-k-preserved c =
    let w = c.loop-k.invariant in
    let g = c.see.ensures in
    let step = glanced_by _ _ _ _ g.kept g.sees in
    let less = c.loop-k-test.true in
    let within = c.requires.within in
    let room = c.requires.room in
    let same = w.room in
    let inside : c.args.from + c.loop-k.k < length c.loop-k.kept = omega (arith, less, within, room, same) in
    let kept = length-set c.loop-k.kept (c.args.from + c.loop-k.k) c.see.result in record {
      held = g.held;
      base = w.base ∙ sym g.kept.base;
      glanced = glanced_on _ _ _ w.glanced step;
      idle = glanced_idle _ _ w.idle step;
      room = omega (arith, kept, same);
      collected = λ k low. collects_one _ _ _ _ _ _ inside g.kept g.sees w.collected k (omega (arith, low));
      steps = let so_far = w.steps in let one = g.steps in omega (arith, so_far, one);
    }
