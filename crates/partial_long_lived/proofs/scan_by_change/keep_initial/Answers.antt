use Rattle.partial_long_lived.proofs.Common.{◌≡◌, ◌∙◌, slice_index, slice_set, refl, sym, subst, arith, inl, inr, eqb_tells, get_or-set_other, get_or-set_same, length-set, initial_record}
use Rattle.partial_long_lived.proofs.scan_by_change.keep_initial.Goals as goal

pub loop-k-init : goal.loop-k-init
loop-k-init c = record { room = refl; kept = λ k low. absurd (omega (arith, low)) }

pub loop-k-preserved : goal.loop-k-preserved
loop-k-preserved c =
    let w = c.loop-k.invariant in
    let n = c.loop-k.k in
    let ws = c.loop-k.kept in
    let a = c.from.result in
    let is = c.from.ensures ∙ c.initial_record.ensures in
    let less = c.loop-k-test.true in
    let room = c.requires.room in
    let same = w.room in
    let long = length-set ws n a in record {
      room = omega (arith, long, same);
      kept = λ k low. elim (eqb_tells k n) [
        | inl here ↦
            subst (λ i. slice_index (slice_set ws n a) i ≡ initial_record c.args.stand.now.shape.sizes (slice_index c.args.which.now i)) (sym here.1)
            (get_or-set_same ws n a 0 (omega (arith, less, room, same)) ∙ is)
        | inr other ↦
            let ne = other.1 in
            get_or-set_other ws n k a 0 ne ∙ w.kept k (omega (arith, low, ne))
      ];
    }
