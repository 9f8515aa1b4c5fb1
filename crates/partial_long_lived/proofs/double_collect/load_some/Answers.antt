use Rattle.partial_long_lived.proofs.{Common.{ℕ, List, ◌+◌, ◌∙◌, inl, inr, sym, subst, arith, slice_index, slice_set, eqb_tells, get_or-set_other, get_or-set_same, length-set, HadValue, SeatedPort, port_at}, Coming.kept_on}
use Rattle.partial_long_lived.proofs.double_collect.load_some.Goals as goal

pub loop-k-preserved : goal.loop-k-preserved
loop-k-preserved c =
    let w = c.loop-k.invariant in
    let one = c.load_kept.ensures in
    let x : SeatedPort = port_at c.args.stand.now in
    let js : List ℕ = c.args.which.now in
    let ws : List ℕ = c.args.kept.now in
    let vs : List ℕ = c.loop-k.into in
    let at : ℕ = c.args.from + c.loop-k.k in
    let a : ℕ = c.load_kept.result in
    let less = c.loop-k-test.true in
    let some = c.requires.some in
    let lengths = c.requires.lengths in
    let many = w.many in
    let long = length-set vs at a in record {
      held = one.held;
      base = w.base ∙ sym one.kept.base;
      kept = kept_on _ _ _ w.kept one.kept;
      same = one.same ∙ w.same;
      many = omega (arith, long, many);
      values = λ k low. elim (eqb_tells k at) [
        | inl here ↦
            subst (λ i. HadValue x (slice_index js i) (slice_index ws i) (slice_index (slice_set vs at a) i)) (sym here.1)
            (subst (HadValue x (slice_index js at) (slice_index ws at)) (sym (get_or-set_same vs at a 0 (omega (arith, less, some, lengths, many))))
            (subst (λ (z : SeatedPort). HadValue z (slice_index js at) (slice_index ws at) a) w.same (one.value (slice_index js at) (c.requires.inside at (omega (arith, less, some))))))
        | inr other ↦
            let ne = other.1 in
            subst (HadValue x (slice_index js k) (slice_index ws k)) (sym (get_or-set_other vs at k a 0 ne)) (w.values k (omega (arith, low, ne)))
      ];
      steps = let so_far = w.steps in let more = one.steps in omega (arith, so_far, more);
    }
