-- What a load of an embedded scan leaves, where its answer comes from elsewhere.
use Rattle.partial_embedded.proofs.{Common.{ℕ, ◌≡◌, ◌≢◌, ◌<◌, List, length, sym, ◌∙◌, ap, subst, arith, Layout, Collect, ViewPair, ViewGoesTogether, IsPossibleInView, advance_view, after_load, view_goes_at, view_left}, Keeps.{kept, sizes_stay, collects_grow}}

-- the loads are at the scan q, which goes together with its positions and is nearer to its end than p
pub record IsLoaded {A : Type 0} (scan : A → ViewPair) (z : Layout) (indices : List ℕ) (p q : ViewPair) (new : A) : Type 0 where
  pub together : ViewGoesTogether indices q
  pub fewer : view_left indices q < view_left indices p
  pub there : scan new ≡ q
  pub sizes : q.0.sizes ≡ z

pub loaded : {A : Type 0} (scan : A → ViewPair) (positions : A → List ℕ) (z : Layout) (indices : List ℕ) (p q : ViewPair) (x : ℕ) (old new : A) → ViewGoesTogether indices p → p.0.sizes ≡ z →
    scan old ≡ p → positions old ≡ indices → IsPossibleInView (scan old) x → scan new ≡ advance_view (positions old) (scan old) x → q ≡ advance_view indices p x → IsLoaded scan z indices p q new
loaded scan positions z indices p q x old new together same at those possible then is =
    let keeps = kept indices p x together (subst (λ (r : ViewPair). IsPossibleInView r x) at possible) in
    record {
      together = subst (ViewGoesTogether indices) (sym is) keeps.together;
      fewer = subst (λ (r : ViewPair). view_left indices r < view_left indices p) (sym is) keeps.fewer;
      there = then ∙ ap (λ (w : List ℕ). advance_view w (scan old) x) those ∙ ap (λ (r : ViewPair). advance_view indices r x) at ∙ sym is;
      sizes = ap (λ (r : ViewPair). r.0.sizes) is ∙ sizes_stay indices p x ∙ same;
    }

-- after a load of a collect that isn't the first the scan doesn't reach the first again
pub still_later : (indices : List ℕ) (p q : ViewPair) (k x : ℕ) → ViewGoesTogether indices p → p.0.stage ≡ Collect k → p.0.collects ≢ 1 → q ≡ after_load (length indices) p k x → q.0.collects ≢ 1
still_later indices p q k x together stage later is first =
    let begun = (subst (view_goes_at indices p) stage together.stage).2 in
    let more = collects_grow (length indices) p k x in
    let same : q.0.collects ≡ (after_load (length indices) p k x).0.collects = ap (λ (r : ViewPair). r.0.collects) is in
    omega (arith, begun, more, same, later, first)
