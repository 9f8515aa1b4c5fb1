-- What a step of a getSet leaves, where its answer comes from elsewhere.
use Rattle.partial_active.proofs.{Common.{ℕ, ◌≡◌, sym, ap, subst, ◌∙◌, AreIndices, SetPair, advance_set, SetGoesTogether, IsPossibleInSet, IsAt}, Sizes.sizes_at, Distinct.found_kept}

-- the steps are at the getSet q, to which the answer x has led
pub made_on : {A : Type 0} (goes : A → Type 0) (set : A → SetPair) (old new : A) (p q : SetPair) (x : ℕ) → IsAt goes set old p → goes new → IsPossibleInSet (set old) x →
    set new ≡ advance_set (set old) x →
    q ≡ advance_set p x → SetGoesTogether q → IsAt goes set new q
made_on goes set old new p q x at going possible then is together =
    let may : IsPossibleInSet p x = subst (λ (r : SetPair). IsPossibleInSet r x) at.there possible in
    let named : AreIndices p.0.sizes.m (advance_set p x).1.indices = found_kept p.0.stage p x may at.indices in
    let sizes : q.0.sizes ≡ p.0.sizes = ap (λ (r : SetPair). r.0.sizes) is ∙ sizes_at p.0.stage p x in
    record {
      going = going;
      there = then ∙ ap (λ (r : SetPair). advance_set r x) at.there ∙ sym is;
      together = together;
      indices = subst (λ z. AreIndices z.m q.1.indices) (sym sizes) (subst (λ (r : SetPair). AreIndices p.0.sizes.m r.1.indices) (sym is) named);
    }
