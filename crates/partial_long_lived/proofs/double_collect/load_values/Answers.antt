use Rattle.partial_long_lived.proofs.{Common.{◌≡◌, ◌+◌, ◌-◌, ◌∙◌, length, subst, sym, arith, SeatedPort, HadValues, port_at}, Coming.{kept_on}}
use Rattle.partial_long_lived.proofs.double_collect.load_values.Goals as goal

pub loop-k-preserved : goal.loop-k-preserved
loop-k-preserved c =
    let so_far = c.loop-k.invariant in
    let some = c.load_some.ensures in
    let within = so_far.within in
    let test = c.loop-k-test.true in record {
      held = some.held;
      base = so_far.base ∙ sym some.kept.base;
      kept = kept_on _ _ _ so_far.kept some.kept;
      same = some.same ∙ so_far.same;
      within = omega (arith, test, within);
      many = some.lengths ∙ so_far.many;
      values = subst (λ (x : SeatedPort). HadValues x c.args.which.now c.args.kept.now c.load_some.new.into (c.loop-k.k + 4)) so_far.same some.values;
      steps = let before = so_far.steps in let more = some.steps in omega (arith, before, more);
    }

pub returns : goal.returns
returns c =
    let so_far = c.loop-k.invariant in
    let some = c.load_some-2.ensures in
    let within = so_far.within in
    let all : c.loop-k.k + (length c.args.which.now - 1 - c.loop-k.k) ≡ length c.args.which.now - 1 = omega (arith, within) in record {
      held = some.held;
      kept = kept_on _ _ _ so_far.kept some.kept;
      same = some.same ∙ so_far.same;
      values = subst (λ n. HadValues (port_at c.args.stand.now) c.args.which.now c.args.kept.now c.load_some-2.new.into n) all
          (subst (λ (x : SeatedPort). HadValues x c.args.which.now c.args.kept.now c.load_some-2.new.into (c.loop-k.k + (length c.args.which.now - 1 - c.loop-k.k))) so_far.same some.values);
      lengths = some.lengths ∙ so_far.many;
      steps = let before = so_far.steps in let more = some.steps in omega (arith, before, more, all);
    }
