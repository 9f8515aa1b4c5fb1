use Rattle.partial_long_lived.proofs.{Common.{◌≡◌, ◌+◌, ◌*◌, ◌≤◌, ◌∙◌, refl, subst, rules, arith, length}, Collects.{glanced_itself, glanced_stayed, stayed_on}, Counts.{round_more, rounds_all, rounds_within}, DoubleCollect.come_named}
use Rattle.partial_long_lived.specs.Bounds.{double_collect_steps, tries}
use Rattle.partial_long_lived.proofs.scan_by_change.collects_after_all.Goals as goal

pub loop-init : goal.loop-init
loop-init c = record {
  held = c.requires.held;
  idle = c.requires.idle;
  stayed = glanced_stayed _ _ c.requires.idle (glanced_itself _ _ _ c.requires.held);
  notes = refl;
  into = refl;
  room = refl;
  steps = omega arith;
}

pub loop-preserved : goal.loop-preserved
loop-preserved c =
    let w = c.loop.invariant in
    let d = c.double_collect.ensures in
    let failed = c.if-double_collect.false in record {
      held = d.held;
      idle = d.stayed.come.idle;
      stayed = stayed_on _ _ _ w.stayed d.stayed;
      notes = d.notes failed ∙ w.notes;
      into = d.unchanged failed ∙ w.into;
      room = d.room ∙ w.room;
      steps = round_more c.loop.counter (double_collect_steps (length c.args.which.now)) _ _ _ w.steps d.steps;
    }

pub returns-then-double_collect-clause-stayed : goal.returns-then-double_collect-clause-stayed
returns-then-double_collect-clause-stayed c = stayed_on _ _ _ c.loop.invariant.stayed c.double_collect.ensures.stayed

pub returns-then-double_collect-clause-scanned : goal.returns-then-double_collect-clause-scanned
returns-then-double_collect-clause-scanned c = λ made.
    let w = c.loop.invariant in
    come_named _ _ _ w.stayed.come w.notes _ _ _ _ _ (c.double_collect.ensures.scanned c.if-double_collect.true)

pub returns-then-double_collect-clause-steps : goal.returns-then-double_collect-clause-steps
returns-then-double_collect-clause-steps c =
    let all : c.min-tries.result ≡ tries c.args.words.now.key.sizes.m (length c.args.which.now) = search rules in
    subst (λ n. c.double_collect.new.stand.seat.steps ≤ c.args.stand.now.seat.steps + n * double_collect_steps (length c.args.which.now)) all
    (rounds_within c.loop.counter c.min-tries.result (double_collect_steps (length c.args.which.now)) _ _ _ c.loop-test.true c.loop.invariant.steps c.double_collect.ensures.steps)

pub returns-clause-steps : goal.returns-clause-steps
returns-clause-steps c =
    let all : c.min-tries.result ≡ tries c.args.words.now.key.sizes.m (length c.args.which.now) = search rules in
    subst (λ n. c.loop.stand.seat.steps ≤ c.args.stand.now.seat.steps + n * double_collect_steps (length c.args.which.now)) all
    (rounds_all c.loop.counter c.min-tries.result (double_collect_steps (length c.args.which.now)) _ _ c.loop.auto.counter-end c.loop.invariant.steps)
