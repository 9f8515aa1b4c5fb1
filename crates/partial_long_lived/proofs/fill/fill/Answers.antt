use Rattle.std.proofs.Common.{tests}
use Rattle.partial_long_lived.proofs.{Common.{rules, ◌≡◌, ◌+◌, ◌≤◌, ap, subst, sym, arith, first_free, Plan, Stays, HasSetWords}, Counts.{fours_more, one_after, stamps_set, values_set}, Staying.stays_then, Working.{after_last}}
use Rattle.partial_long_lived.proofs.fill.fill.Goals as goal

pub loop-component-init : goal.loop-component-init
loop-component-init c =
    let stays : Stays c.args.stand.now c.fill_front.new.stand = stays_then _ _ _ c.fill_slots.ensures.stays c.fill_front.ensures.stays in
    search rules

pub fill_stamp-requires-clause-works : goal.fill_stamp-requires-clause-works
fill_stamp-requires-clause-works c = search (tests, rules)

pub loop-component-preserved : goal.loop-component-preserved
loop-component-preserved c =
    let so_far = c.loop-component.invariant in
    let set = c.fill_record.ensures in record {
      held = set.held;
      stays = stays_then _ _ _ so_far.stays set.stays;
      sealed = subst (λ n. c.args.words.now.key.sizes.m ≤ n) (sym set.passed) so_far.sealed;
      works = set.works;
      steps = fours_more _ _ _ _ _ so_far.steps set.steps;
    }

pub loop-component-2-init : goal.loop-component-2-init
loop-component-2-init c =
    let so_far = c.loop-component.invariant in
    let same = ap (λ (e : Plan). e.sizes.m) c.fill_front.ensures.held.shape in
    let end = c.m-component-end.ensures.value in
    let within = c.loop-component.auto.component-end in
    let past = c.loop-component-test.false in record {
      held = so_far.held;
      stays = so_far.stays;
      sealed = so_far.sealed;
      works = subst (λ n. HasSetWords c.loop-component.stand c.args.arena c.args.words.now.key.ports n)
          (after_last c.args.words.now.key.sizes c.loop-component.component (omega (arith, past, same, end))) so_far.works;
      steps = values_set _ _ _ _ _ (omega (arith, within, same, end)) so_far.steps;
    }

pub loop-component-2-preserved : goal.loop-component-2-preserved
loop-component-2-preserved c =
    let so_far = c.loop-component-2.invariant in
    let set = c.fill_stamp.ensures in record {
      held = set.held;
      stays = stays_then _ _ _ so_far.stays set.stays;
      sealed = subst (λ n. c.args.words.now.key.sizes.m ≤ n) (sym set.passed) so_far.sealed;
      works = subst (λ n. HasSetWords c.fill_stamp.new.stand c.args.arena c.args.words.now.key.ports n)
          (one_after (first_free c.args.words.now.key.sizes) c.loop-component-2.component) set.works;
      steps = fours_more _ _ _ _ _ so_far.steps set.steps;
    }

pub returns : goal.returns
returns c =
    let so_far = c.loop-component-2.invariant in
    let same = ap (λ (e : Plan). e.sizes.m) c.loop-component.invariant.held.shape in
    let end = c.m-component-end-2.ensures.value in
    let within = c.loop-component-2.auto.component-end in
    let past = c.loop-component-2-test.false in
    let all : c.loop-component-2.component ≡ c.args.words.now.key.sizes.m = omega (arith, within, past, same, end) in record {
      held = so_far.held;
      stays = so_far.stays;
      works = subst (λ n. HasSetWords c.loop-component-2.stand c.args.arena c.args.words.now.key.ports (first_free c.args.words.now.key.sizes + n)) all so_far.works;
      steps = stamps_set _ _ _ _ _ (omega (arith, all)) so_far.steps;
    }
