-- Over every run the machine goes together with its positions, so its steps and collects are bounded.
use Rattle.partial_embedded.proofs.{Common.{ℕ, ◌≡◌, ◌+◌, ◌<◌, ◌≤◌, Bool, Some, List, [], ◌∷◌, length, slice_index, refl, sym, ◌∙◌, ap, subst, arith, Layout, value_word, view_word, Stage, Collect, View, Len, Index, PairValue, Value, Done, ViewPair, RowsState, ViewGoesTogether, view_goes_at, fresh_view, advance_view, view_step_at, view_left, ViewRun, RunsTo, IsOfPosition, LoadsItsPositionsAlone, MakesFewCollects}, Keeps.{kept, sizes_stay, fresh_together, fresh_left}}
use Rattle.partial_words.specs.declared.step.Step.{Step}
use Rattle.partial_words.specs.declared.step.Step.TheVariants.{Load}

-- what holds after a run
record Ran (indices : List ℕ) (p : ViewPair) (xs : List ℕ) (q : ViewPair) : Type 0 where
  together : ViewGoesTogether indices q
  sizes : q.0.sizes ≡ p.0.sizes
  steps : length xs + view_left indices q ≤ view_left indices p

ran : (indices : List ℕ) (p : ViewPair) (xs : List ℕ) (q : ViewPair) → ViewGoesTogether indices p → ViewRun indices p xs q → Ran indices p xs q
ran indices p [] q w is = record {
  together = subst (ViewGoesTogether indices) (sym is) w;
  sizes = ap (λ (t : ViewPair). t.0.sizes) is;
  steps = let same : view_left indices q ≡ view_left indices p =
      ap (view_left indices) is in omega (arith, same);
}
ran indices p (x ∷ xs) q w run =
    let k = kept indices p x w run.0 in
    let rest = ran indices (advance_view indices p x) xs q k.together run.1 in
    let fewer = k.fewer in
    let steps = rest.steps in
    record { together = rest.together; sizes = rest.sizes ∙ sizes_stay indices p x; steps = omega (arith, fewer, steps) }

ran_from : (s : Layout) (shares : Bool) (indices : List ℕ) (rows : RowsState) (xs : List ℕ) (q : ViewPair) → RunsTo s shares indices rows xs q → Ran indices (fresh_view s shares, rows) xs q
ran_from s shares indices rows xs q w = ran indices (fresh_view s shares, rows) xs q (fresh_together s shares indices rows w.0 w.1) w.2

pub makes_few_collects : MakesFewCollects
makes_few_collects s shares indices rows xs q w =
    let r = ran_from s shares indices rows xs q w in
    let left = fresh_left s shares indices rows in
    let steps = r.steps in
    (r.together.collects, omega (arith, left, steps))

-- the step at a stage
loads_at : (s : Layout) (indices : List ℕ) (q : ViewPair) (stage : Stage) (step : Step) → q.0.sizes ≡ s → view_goes_at indices q stage → view_step_at q.0.sizes indices q.1.last stage ≡ Some step →
    (w : ℕ) ×
    (step ≡ Load w) × (w < s.m → IsOfPosition indices w)
loads_at s indices q (Collect k) step is goes due = (slice_index indices k, cc, λ below. (k, goes.0, refl))
loads_at s indices q (View stamp) step is goes due = let base = goes.0 in let same = ap (λ (l : Layout). l.m) is in (view_word stamp, cc, λ below. absurd (omega (arith, base, below, same)))
loads_at s indices q (Len at) step is goes due = let base = goes.0 in let same = ap (λ (l : Layout). l.m) is in (at, cc, λ below. absurd (omega (arith, base, below, same)))
loads_at s indices q (Index at left) step is goes due = let base = goes.3 in let same = ap (λ (l : Layout). l.m) is in (at, cc, λ below. absurd (omega (arith, base, below, same)))
loads_at s indices q (PairValue at left index) step is goes due = let base = goes.4 in let same = ap (λ (l : Layout). l.m) is in (at, cc, λ below. absurd (omega (arith, base, below, same)))
loads_at s indices q (Value k) step is goes due = let base = (goes.1 k goes.0).0 in let same =
    ap (λ (l : Layout). l.m) is in (value_word (slice_index q.1.last k), cc, λ below. absurd (omega (arith, base, below, same)))
loads_at s indices q Done step is goes due = cc

pub loads_its_positions_alone : LoadsItsPositionsAlone
loads_its_positions_alone s shares indices rows xs q step w due =
    let r = ran_from s shares indices rows xs q w in
    loads_at s indices q q.0.stage step r.sizes r.together.stage due
