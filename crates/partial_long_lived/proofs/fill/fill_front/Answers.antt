use Rattle.std.proofs.Common.{rules, tests}
use Rattle.partial_long_lived.proofs.{Common.{◌≤◌, ◌∙◌, subst, sym, arith}, Counts.{fronts_more}, Staying.{stays_then}}
use Rattle.partial_long_lived.proofs.fill.fill_front.Goals as goal

pub returns-clause-stays : goal.returns-clause-stays
returns-clause-stays c = stays_then _ _ _ c.loop-number.invariant.stays c.set_lists.ensures.stays

pub loop-number-init : goal.loop-number-init
loop-number-init c = search (tests, rules)

pub loop-number-preserved : goal.loop-number-preserved
loop-number-preserved c =
    let so_far = c.loop-number.invariant in
    let set = c.set_word.ensures in
    let from = so_far.from in record {
      held = set.held;
      stays = stays_then _ _ _ so_far.stays set.stays;
      passed = set.passed ∙ so_far.passed;
      sealed = subst (λ n. c.args.words.now.key.sizes.m ≤ n) (sym set.passed) so_far.sealed;
      works = set.works;
      from = omega (arith, from);
      last = so_far.last;
      steps = fronts_more _ _ _ _ _ so_far.steps set.steps;
    }
