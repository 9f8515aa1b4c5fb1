use Rattle.std.proofs.Common.{rules, tests}
use Rattle.partial_long_lived.proofs.{Common.{◌+◌, refl, sym, ap, ◌∙◌, inl, inr, arith, Plan}, Staying.{same_itself, same_then, stays_same, stays_then}}
use Rattle.partial_long_lived.proofs.seal.seal.Goals as goal

pub loop-init : goal.loop-init
loop-init c =
    let h = c.requires.held in record {
      held = h;
      stays = stays_same _ _ _ h;
      same = same_itself _;
      free = c.requires.may;
      at = refl;
      all = c.m-m.ensures.value ∙ sym (ap (λ (e : Plan). e.sizes.m) h.shape);
      within = inr refl;
      steps = omega arith;
    }

pub loop-preserved : goal.loop-preserved
loop-preserved c =
    let w = c.loop.invariant in
    let p = c.pass.ensures in record {
      held = p.held;
      stays = stays_then _ _ _ w.stays p.stays;
      same = same_then _ _ _ w.same p.same;
      free = p.free;
      at = ap (λ n. n + 1) w.at ∙ sym p.passed;
      all = w.all;
      within = let low = c.loop-test.true in inl (omega (arith, low));
      steps = let so_far = w.steps in let one = p.steps in omega (arith, so_far, one);
    }

pub returns-clause-sealed : goal.returns-clause-sealed
returns-clause-sealed c = search (tests, rules)

pub returns-clause-steps : goal.returns-clause-steps
returns-clause-steps c =
    let w = c.loop.invariant in
    let steps = w.steps in
    let all = w.all in
    elim w.within [
      | inl few ↦ omega (arith, steps, all, few)
      | inr none ↦ omega (arith, steps, none)
    ]
