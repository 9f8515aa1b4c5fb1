use Rattle.std.proofs.Common.{rules, tests}
use Rattle.partial_long_lived.proofs.{Common.{◌≡◌, ◌≤◌, ◌∙◌, ap, subst, sym, arith, Plan, HasSetWords}, Counts.{steps_all, steps_past, steps_to}, Staying.{stays_then}}
use Rattle.partial_long_lived.proofs.fill.fill_slots.Goals as goal

pub loop-number-init : goal.loop-number-init
loop-number-init c =
    let clear = c.find_clear-clear.ensures in record {
      held = clear.held;
      stays = clear.stays;
      passed = clear.passed;
      sealed = subst (λ n. c.args.words.now.key.sizes.m ≤ n) (sym clear.passed) c.requires.sealed;
      works = clear.works;
      steps = steps_past _ _ _ clear.steps;
    }

pub set_word-requires-clause-right : goal.set_word-requires-clause-right
set_word-requires-clause-right c = search (tests, rules)

pub loop-number-preserved : goal.loop-number-preserved
loop-number-preserved c =
    let so_far = c.loop-number.invariant in
    let set = c.set_word.ensures in record {
      held = set.held;
      stays = stays_then _ _ _ so_far.stays set.stays;
      passed = set.passed ∙ so_far.passed;
      sealed = subst (λ n. c.args.words.now.key.sizes.m ≤ n) (sym set.passed) so_far.sealed;
      works = set.works;
      steps = steps_to _ _ _ _ _ so_far.steps set.steps;
    }

pub returns : goal.returns
returns c =
    let so_far = c.loop-number.invariant in
    let clear = c.find_clear-clear.ensures in
    let same = ap (λ (e : Plan). e.sizes.slots) clear.held.shape in
    let end = c.slots-number-end.ensures.value in
    let most = clear.most in
    let within = c.loop-number.auto.number-end (omega (arith, most, same, end)) in
    let past = c.loop-number-test.false in
    let all : c.loop-number.number ≡ c.args.words.now.key.sizes.slots = omega (arith, within, past, same, end) in record {
      held = so_far.held;
      stays = so_far.stays;
      passed = so_far.passed;
      works = subst (λ n. HasSetWords c.loop-number.stand c.args.arena c.args.words.now.key.ports n) all so_far.works;
      steps = steps_all _ _ _ _ _ all so_far.steps;
    }
