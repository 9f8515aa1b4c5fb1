use Rattle.partial_long_lived.proofs.{Common.{◌≤◌, length, refl, arith}, Collects.{glanced_itself, glanced_on}}
use Rattle.partial_long_lived.proofs.double_collect.collect.Goals as goal

pub loop-k-init : goal.loop-k-init
loop-k-init c =
    let some = c.requires.some in
    let within : 1 ≤ length c.args.which.now = omega (arith, some) in record {
      held = c.requires.held;
      base = c.requires.base;
      glanced = glanced_itself _ _ _ c.requires.held;
      idle = c.requires.idle;
      within = within;
      room = refl;
      collected = c.requires.first;
      steps = omega arith;
    }

pub returns-clause-glanced : goal.returns-clause-glanced
returns-clause-glanced c = glanced_on _ _ _ c.loop-k.invariant.glanced c.collect_some-2.ensures.glanced
