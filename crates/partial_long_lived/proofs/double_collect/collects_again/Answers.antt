use Rattle.partial_long_lived.proofs.{Common.{◌≡◌, ◌+◌, ◌-◌, ◌∙◌, length, subst, sym, arith, port_at, AreCollected}, Collects.{glanced_idle, glanced_itself, glanced_on, glanced_seen}}
use Rattle.partial_long_lived.proofs.double_collect.collects_again.Goals as goal

pub loop-k-init : goal.loop-k-init
loop-k-init c = record {
  held = c.requires.held;
  base = c.requires.base;
  glanced = glanced_itself _ _ _ c.requires.held;
  idle = c.requires.idle;
  within = omega arith;
  collected = λ k low. absurd (omega (arith, low));
  steps = omega arith;
}

pub returns-then-not-collects_some_again-clause-glanced : goal.returns-then-not-collects_some_again-clause-glanced
returns-then-not-collects_some_again-clause-glanced c = glanced_on _ _ _ c.loop-k.invariant.glanced c.collects_some_again.ensures.glanced

pub returns-clause-glanced : goal.returns-clause-glanced
returns-clause-glanced c = glanced_on _ _ _ c.loop-k.invariant.glanced c.collects_some_again-2.ensures.glanced

pub loop-k-preserved : goal.loop-k-preserved
loop-k-preserved c =
    let so_far = c.loop-k.invariant in
    let one = c.collects_some_again.ensures in
    let within = so_far.within in
    let test = c.loop-k-test.true in record {
      held = one.held;
      base = so_far.base ∙ sym one.glanced.kept.base;
      glanced = glanced_on _ _ _ so_far.glanced one.glanced;
      idle = glanced_idle _ _ so_far.idle one.glanced;
      within = omega (arith, test, within);
      collected = one.collected c.if-not-collects_some_again.false _ (glanced_seen _ _ so_far.glanced) so_far.collected;
      steps = let before = so_far.steps in let more = one.steps in omega (arith, before, more);
    }

pub returns-then-not-collects_some_again-clause-collected : goal.returns-then-not-collects_some_again-clause-collected
returns-then-not-collects_some_again-clause-collected c = λ no. absurd cc

pub returns-then-not-collects_some_again-clause-steps : goal.returns-then-not-collects_some_again-clause-steps
returns-then-not-collects_some_again-clause-steps c =
    let within = c.loop-k.invariant.within in
    let test = c.loop-k-test.true in
    let before = c.loop-k.invariant.steps in
    let more = c.collects_some_again.ensures.steps in
    omega (arith, before, more, test, within)

pub returns-clause-collected : goal.returns-clause-collected
returns-clause-collected c = λ yes.
    let so_far = c.loop-k.invariant in
    let within = so_far.within in
    let all : c.loop-k.k + (length c.args.which.now - c.loop-k.k) ≡ length c.args.which.now = omega (arith, within) in
    subst (λ n. AreCollected (port_at c.collects_some_again-2.new.stand) (length (port_at c.args.stand.now).port.part.seen) (length (port_at c.collects_some_again-2.new.stand).port.part.seen)
    c.args.which.now c.args.kept.now n) all (c.collects_some_again-2.ensures.collected yes _ (glanced_seen _ _ so_far.glanced) so_far.collected)

pub returns-clause-steps : goal.returns-clause-steps
returns-clause-steps c =
    let within = c.loop-k.invariant.within in
    let before = c.loop-k.invariant.steps in
    let more = c.collects_some_again-2.ensures.steps in
    omega (arith, before, more, within)
