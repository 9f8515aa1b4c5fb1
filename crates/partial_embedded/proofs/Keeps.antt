-- Each possible answer keeps the machine, its positions and its buffers together, and leaves fewer steps.
use Rattle.partial_embedded.proofs.Common.{ℕ, zero, suc, ◌≡◌, ◌+◌, ◌-◌, ◌*◌, ◌<◌, ◌≤◌, ◌==◌, Bool, true, false, if◌then◌else◌, not, ◌&&◌, ◌||◌, ◌⊎◌, List, [], ◌∷◌, length, slice_index_or, slice_index, slice_set, refl, sym, ◌∙◌, ap, subst, inl, inr, arith, get_or-set_other, get_or-set_same, length-set, set-get_or, eqb-false, eq-eqb, ne_eqb, ltb-true, ltb-false, cases_lt, false≢true, eqb_tells, mul-le-mul_left, nat_lt, Layout, pool_base, pool_end, pairs_word, next_word, view_size, pairs_size, Stage, Collect, View, Len, Index, PairValue, Value, Done, EmbeddedState, RowsState, ViewPair, AreRowsFor, ArePositions, AreLoaded, IsPlainRecord, ViewGoesTogether, IsPossibleInView, IsPossibleInViewAt, view_goes_at, view_left_at, view_left, count_true, changes, future, is_first, differs, was_changed, noted_load, borrow, go_on, after_collect, after_load, after_view, view_at_stage, with_value, pairs_from, advance_view, advance_view_at, most_view_steps, fresh_view}

-- one position more has changed
count_set : (l : List Bool) (r k : ℕ) → k < r → k < length l → slice_index_or l k false ≡ false → count_true r (slice_set l k true) ≡ count_true r l + 1
count_set [] r k below within same = absurd (omega (arith, within))
count_set (x ∷ l) zero k below within same = absurd (omega (arith, below))
count_set (true ∷ l) (suc r) zero below within same = absurd (false≢true (sym same))
count_set (false ∷ l) (suc r) zero below within same = let goal : 1 + count_true r l ≡ 0 + count_true r l + 1 = omega arith in goal
count_set (x ∷ l) (suc r) (suc k) below within same =
    let rest = count_set l r k (omega (arith, below)) (omega (arith, within)) same in
    let goal : (if x then 1 else 0) + count_true r (slice_set l k true) ≡ (if x then 1 else 0) + count_true r l + 1 = omega (arith, rest) in
    goal

count_few : (l : List Bool) (r : ℕ) → count_true r l ≤ r
count_few l zero = omega arith
count_few [] (suc r) = omega arith
count_few (true ∷ l) (suc r) = let rest = count_few l r in let goal : 1 + count_true r l ≤ suc r = omega (arith, rest) in goal
count_few (false ∷ l) (suc r) = let rest = count_few l r in let goal : 0 + count_true r l ≤ suc r = omega (arith, rest) in goal

-- how many more collects there may be, by whether the one under way is the first and whether it has shown a change
abbrev future_by : ℕ → ℕ → Bool → Bool → ℕ
future_by r d first moved = if first then r + 1 else (if moved then r - d + 1 else (r - d))

-- a first change leaves as many, no change changes nothing
future_noted : (r d e : ℕ) (first moved b : Bool) → (b ≡ true → (e ≡ d + 1) × (e ≤ r)) → (first ≡ false → b ≡ false → e ≡ d) → future_by r e first (moved || b) ≤ future_by r d first moved
future_noted r d e true moved b more same = omega arith
future_noted r d e false true b more same = step b more (same refl)
  where
    step : (b : Bool) → (b ≡ true → (e ≡ d + 1) × (e ≤ r)) → (b ≡ false → e ≡ d) → r - e + 1 ≤ r - d + 1
    step true more same = let m = more refl in let one = m.0 in omega (arith, one)
    step false more same = let s = same refl in omega (arith, s)
future_noted r d e false false true more same = let m = more refl in let one = m.0 in let few = m.1 in omega (arith, one, few)
future_noted r d e false false false more same = let s = same refl refl in omega (arith, s)

and_first : (f g : Bool) → (not f && g) ≡ true → f ≡ false
and_first true g e = absurd (false≢true e)
and_first false g e = refl

and_second : (b w : Bool) → (b && w) ≡ false → b ≡ true → w ≡ false
and_second true w e d = e
and_second false w e d = absurd (false≢true d)

-- what a load notes leaves no more collects
module _ (r : ℕ) (p : ViewPair) (k x : ℕ) (below : k < r) (within : k < length p.1.changed) (both : (differs p k x && was_changed p k) ≡ false) where
  newly : differs p k x ≡ true → (changes r (noted_load p k x).1 ≡ changes r p.1 + 1) × (changes r (noted_load p k x).1 ≤ r)
  newly d =
      let first : is_first p ≡ false = and_first (is_first p) (not (slice_index p.1.last k == x)) d in
      let was : was_changed p k ≡ false = and_second (differs p k x) (was_changed p k) both d in
      let unchanged : slice_index_or p.1.changed k false ≡ false = ap (λ (f : Bool). not f && slice_index_or p.1.changed k false) (sym first) ∙ was in
      let is : changes r (noted_load p k x).1 ≡ count_true r (slice_set p.1.changed k true) = ap (λ (b : Bool). count_true r (slice_set p.1.changed k (b || was_changed p k))) d in
      let more : changes r (noted_load p k x).1 ≡ changes r p.1 + 1 = is ∙ count_set p.1.changed r k below within unchanged in
      (more, count_few (noted_load p k x).1.changed r)

  unmoved : is_first p ≡ false → differs p k x ≡ false → changes r (noted_load p k x).1 ≡ changes r p.1
  unmoved first d =
      ap (λ (b : Bool). count_true r (slice_set p.1.changed k (b || was_changed p k))) d
      ∙ ap (λ (f : Bool). count_true r (slice_set p.1.changed k (not f && slice_index_or p.1.changed k false))) first
      ∙ ap (λ (l : List Bool). count_true r l) (set-get_or p.1.changed k false)

  noted_future : future r (noted_load p k x) ≤ future r p
  noted_future = future_noted r (changes r p.1) (changes r (noted_load p k x).1) (is_first p) p.0.moved (differs p k x) newly unmoved

-- what an answer leaves: the machine, its positions and its buffers go together, and there are fewer steps
pub record Keeps (indices : List ℕ) (p q : ViewPair) : Type 0 where
  pub together : ViewGoesTogether indices q
  pub fewer : view_left indices q < view_left indices p

-- the latest loads with one position more
loaded_more : (s : Layout) (l : List ℕ) (n k x : ℕ) → k < length l → IsPlainRecord s x → ((i : ℕ) → i < n → IsPlainRecord s (slice_index l i)) → (i : ℕ) → (i < n) ⊎ (i ≡ k) →
    IsPlainRecord s (slice_index (slice_set l k x) i)
loaded_more s l n k x below rec all i w =
    elim (eqb_tells i k) [
      | inl t ↦ subst (IsPlainRecord s) (sym (ap (λ j. slice_index (slice_set l k x) j) t.1 ∙ get_or-set_same l k x 0 below)) rec
      | inr t ↦ subst (IsPlainRecord s) (sym (get_or-set_other l k i x 0 t.1)) (all i (elim w [ inl h ↦ h | inr h ↦ absurd (t.1 h) ]))
    ]

-- a position of the collect was loaded before, or is the one loaded now
next_loaded : (f : Bool) (r k i : ℕ) → i < (if f then k + 1 else r) → (i < (if f then k else r)) ⊎ (i ≡ k)
next_loaded true r k i h = elim (cases_lt i k) [ inl below ↦ inl below | inr from ↦ inr (omega (arith, h, from)) ]
next_loaded false r k i h = inl h

all_loaded : (f : Bool) (r k i : ℕ) → r ≡ k + 1 → i < r → (i < (if f then k else r)) ⊎ (i ≡ k)
all_loaded true r k i last h = elim (cases_lt i k) [ inl below ↦ inl below | inr from ↦ inr (omega (arith, h, from, last)) ]
all_loaded false r k i last h = inl h

-- a collect that is not the last leaves one fewer
one_fewer : (r d : ℕ) (first moved : Bool) → (first || moved) ≡ true → r - d + 1 ≤ future_by r d first moved
one_fewer r d true moved e = omega arith
one_fewer r d false true e = omega arith
one_fewer r d false false e = absurd (false≢true e)

module _ (indices : List ℕ) (p : ViewPair) (k x : ℕ) (w : ViewGoesTogether indices p) (stage : p.0.stage ≡ Collect k) (rec : IsPlainRecord p.0.sizes x) where
  r : ℕ
  r = length indices

  at_here : view_goes_at indices p (Collect k)
  at_here = subst (view_goes_at indices p) stage w.stage

  left_here : view_left indices p ≡ length indices - k + length indices * future (length indices) p + view_size p.0.sizes.m + 1
  left_here = ap (view_left_at (length indices) p) stage

  within_last : k < length p.1.last
  within_last = let h = at_here in let k_r = h.0 in omega (arith, k_r, w.positions.few, w.rows.last)

  within_changed : k < length p.1.changed
  within_changed = let h = at_here in let k_r = h.0 in omega (arith, k_r, w.positions.few, w.rows.changed)

  rows_noted : AreRowsFor p.0.sizes (noted_load p k x).1
  rows_noted = record { last = length-set p.1.last k x ∙ w.rows.last; changed = length-set p.1.changed k (differs p k x || was_changed p k) ∙ w.rows.changed; values = w.rows.values }

  loaded_noted : (n : ℕ) → ((i : ℕ) → i < n → (i < (if is_first p then k else length indices)) ⊎ (i ≡ k)) → AreLoaded p.0.sizes (noted_load p k x).1 n
  loaded_noted n all i below = loaded_more p.0.sizes p.1.last (if is_first p then k else length indices) k x within_last rec at_here.3 i (all i below)

  borrowed : Keeps indices p (borrow p x)
  borrowed = let h = at_here in let k_r = h.0 in let l = left_here in
      record { together = record { positions = w.positions; rows = w.rows; collects = w.collects; stage = rec }; fewer = omega (arith, k_r, l) }

  module _ (both : (differs p k x && was_changed p k) ≡ false) where
    fewer_collects : future (length indices) (noted_load p k x) ≤ future (length indices) p
    fewer_collects = noted_future (length indices) p k x (at_here.0) within_changed both

    next_position : k + 1 < length indices → Keeps indices p (view_at_stage (noted_load p k x) (Collect (k + 1)))
    next_position more =
        let f = fewer_collects in
        let h = at_here in
        let l = left_here in
        let room = h.1 in
        let times = mul-le-mul_left (length indices) f in
        record {
          together = record {
            positions = w.positions;
            rows = rows_noted;
            collects = w.collects;
            stage = (more, omega (arith, room, f), h.2, loaded_noted (if is_first p then k + 1 else length indices) (λ i below. next_loaded (is_first p) (length indices) k i below));
          };
          fewer = omega (arith, times, l, more);
        }

    another : length indices ≡ k + 1 → (is_first p || (noted_load p k x).0.moved) ≡ true →
        Keeps indices p (record (noted_load p k x).0 { collects = p.0.collects + 1; moved = false; stage = Collect 0 }, (noted_load p k x).1)
    another last e =
        let f = fewer_collects in
        let h = at_here in
        let l = left_here in
        let room = h.1 in
        let some = h.2 in
        let q : ViewPair = (record (noted_load p k x).0 { collects = p.0.collects + 1; moved = false; stage = Collect 0 }, (noted_load p k x).1) in
        let later : is_first q ≡ false = ne_eqb (p.0.collects + 1) 1 (λ same. omega (arith, some, same)) in
        let next : future (length indices) q ≡ length indices - changes (length indices) (noted_load p k x).1 =
        ap (λ (b : Bool). future_by (length indices) (changes (length indices) (noted_load p k x).1) b false) later in
        let one = one_fewer (length indices) (changes (length indices) (noted_load p k x).1) (is_first p) (noted_load p k x).0.moved e in
        let fewer : future (length indices) q + 1 ≤ future (length indices) p = omega (arith, next, one, f) in
        let times = mul-le-mul_left (length indices) fewer in
        let all : AreLoaded p.0.sizes (noted_load p k x).1 (if is_first q then 0 else length indices) =
        subst (λ (b : Bool). AreLoaded p.0.sizes (noted_load p k x).1 (if b then 0 else length indices)) (sym later)
        (loaded_noted (length indices) (λ i below. all_loaded (is_first p) (length indices) k i last below)) in
        record {
          together = record { positions = w.positions; rows = rows_noted; collects = omega (arith, room, fewer); stage = (omega (arith, last), omega (arith, room, fewer), omega arith, all) };
          fewer = omega (arith, times, l, last);
        }

    values : length indices ≡ k + 1 → Keeps indices p (view_at_stage (noted_load p k x) (Value 0))
    values last =
        let l = left_here in
        let few = w.positions.few in
        record {
          together = record {
            positions = w.positions;
            rows = rows_noted;
            collects = w.collects;
            stage = (omega (arith, last), loaded_noted (length indices) (λ i below. all_loaded (is_first p) (length indices) k i last below));
          };
          fewer = omega (arith, l, last, few);
        }

    whole : length indices ≡ k + 1 → (b : Bool) → (is_first p || (noted_load p k x).0.moved) ≡ b →
        Keeps indices p (if b then (record (noted_load p k x).0 { collects = p.0.collects + 1; moved = false; stage = Collect 0 }, (noted_load p k x).1)
        else view_at_stage (noted_load p k x) (Value 0))
    whole last true e = another last e
    whole last false e = values last

    on_from : (b : Bool) → nat_lt (k + 1) (length indices) ≡ b → Keeps indices p (if b then view_at_stage (noted_load p k x) (Collect (k + 1)) else after_collect (noted_load p k x))
    on_from true e = next_position (ltb-true (k + 1) (length indices) e)
    on_from false e = let past = ltb-false (k + 1) (length indices) e in let h = at_here in let k_r = h.0 in whole (omega (arith, past, k_r)) (is_first p || (noted_load p k x).0.moved) refl

  pub load_kept : Keeps indices p (after_load (length indices) p k x)
  load_kept = either (differs p k x && was_changed p k) refl
    where
      either : (b : Bool) → (differs p k x && was_changed p k) ≡ b → Keeps indices p (if b then borrow p x else go_on (length indices) (noted_load p k x) k)
      either true e = borrowed
      either false e = on_from e (nat_lt (k + 1) (length indices)) refl

pub neither : (a b : Bool) → (a || b) ≡ false → (a ≡ false) × (b ≡ false)
neither true b e = absurd (false≢true (sym e))
neither false b e = (refl, e)

module _ (indices : List ℕ) (p : ViewPair) (x : ℕ) (w : ViewGoesTogether indices p) where
  -- the same buffers at a stage of which something is known
  stays : (s t : Stage) (e : EmbeddedState) → p.0.stage ≡ s → e.sizes ≡ p.0.sizes → e.collects ≡ p.0.collects → e.stage ≡ t → view_goes_at indices (e, p.1) t →
      view_left_at (length indices) (e, p.1) t < view_left_at (length indices) p s → Keeps indices p (e, p.1)
  stays s t e stage sizes collects next goes fewer =
      let before : view_left indices p ≡ view_left_at (length indices) p s = ap (view_left_at (length indices) p) stage in
      let after : view_left indices (e, p.1) ≡ view_left_at (length indices) (e, p.1) t = ap (view_left_at (length indices) (e, p.1)) next in
      record {
        together = record {
          positions = subst (λ (l : Layout). ArePositions l indices) (sym sizes) w.positions;
          rows = subst (λ (l : Layout). AreRowsFor l p.1) (sym sizes) w.rows;
          collects = omega (arith, collects, w.collects);
          stage = subst (view_goes_at indices (e, p.1)) (sym next) goes;
        };
        fewer = omega (arith, before, after, fewer);
      }

  here : (s : Stage) → p.0.stage ≡ s → view_goes_at indices p s
  here s e = subst (view_goes_at indices p) e w.stage

  view_kept : (stamp : ℕ) → p.0.stage ≡ View stamp → IsPossibleInViewAt p.0.sizes (View stamp) x → Keeps indices p (after_view p.0 x, p.1)
  view_kept stamp e possible = either ((x == 0) || p.0.shares) refl
    where
      either : (b : Bool) → ((x == 0) || p.0.shares) ≡ b → Keeps indices p (record p.0 { view = x; stage = (if b then Done else Len x) }, p.1)
      either true c = stays (View stamp) Done (record p.0 { view = x; stage = Done }) e refl refl refl tt (omega arith)
      either false c = stays (View stamp) (Len x) (record p.0 { view = x; stage = Len x }) e refl refl refl
          (elim possible [ inl zero' ↦ absurd (false≢true (sym (neither (x == 0) p.0.shares c).0 ∙ eq-eqb x 0 zero')) | inr h ↦ h ]) (omega arith)

  -- so many pairs left
  pairs_kept : (s : Stage) (rows : RowsState) (at left : ℕ) → p.0.stage ≡ s → AreRowsFor p.0.sizes rows → pool_base p.0.sizes ≤ at → left ≤ p.0.sizes.m → at + pairs_size left ≤ pool_end p.0.sizes →
      pairs_size left < view_left_at (length indices) p s → Keeps indices p (view_at_stage (p.0, rows) (pairs_from at left))
  pairs_kept s rows at left e for base few room fewer = either (left == 0) refl
    where
      before : view_left indices p ≡ view_left_at (length indices) p s
      before = ap (view_left_at (length indices) p) e

      either : (b : Bool) → (left == 0) ≡ b → Keeps indices p (view_at_stage (p.0, rows) (if b then Done else Index at left))
      either true c = let l = before in record { together = record { positions = w.positions; rows = for; collects = w.collects; stage = tt }; fewer = omega (arith, l, fewer) }
      either false c = let l = before in let some = eqb-false left 0 c in record
          { together = record { positions = w.positions; rows = for; collects = w.collects; stage = (omega (arith, some), few, room, base) }; fewer = omega (arith, l, fewer) }

  len_kept : (at : ℕ) → p.0.stage ≡ Len at → IsPossibleInViewAt p.0.sizes (Len at) x → Keeps indices p (view_at_stage p (pairs_from (pairs_word at) x))
  len_kept at e possible = let few = possible.0 in let room = possible.1 in pairs_kept (Len at) p.1 (pairs_word at) x e w.rows (let base = (here (Len at) e).0 in omega (arith, base)) few
      (omega (arith, room)) (omega (arith, few))

  index_kept : (at left : ℕ) → p.0.stage ≡ Index at left → x < p.0.sizes.m → Keeps indices p (view_at_stage p (PairValue (next_word at) left x))
  index_kept at left e below =
      let h = here (Index at left) e in
      let some = h.0 in
      let room = h.2 in
      stays (Index at left) (PairValue (next_word at) left x) (record p.0 { stage = PairValue (next_word at) left x }) e refl refl refl
      (h.0, h.1, omega (arith, room), below, let base = h.3 in omega (arith, base)) (omega (arith, some))

  values_for : (j : ℕ) → AreRowsFor p.0.sizes (with_value p j x).1
  values_for j = record { last = w.rows.last; changed = w.rows.changed; values = length-set p.1.values j x ∙ w.rows.values }

  pair_kept : (at left index : ℕ) → p.0.stage ≡ PairValue at left index → Keeps indices p (view_at_stage (with_value p index x) (pairs_from (next_word at) (left - 1)))
  pair_kept at left index e =
      let h = here (PairValue at left index) e in
      let some = h.0 in
      let few = h.1 in
      let room = h.2 in
      pairs_kept (PairValue at left index) (with_value p index x).1 (next_word at) (left - 1) e (values_for index) (let base = h.4 in omega (arith, base)) (omega (arith, few))
      (omega (arith, some, room)) (omega (arith, some))

  value_kept : (k : ℕ) → p.0.stage ≡ Value k → Keeps indices p (view_at_stage (with_value p (slice_index indices k) x) (if nat_lt (k + 1) (length indices) then Value (k + 1) else Done))
  value_kept k e = either (nat_lt (k + 1) (length indices)) refl
    where
      q : EmbeddedState → ViewPair
      q f = (f, (with_value p (slice_index indices k) x).1)

      before : view_left indices p ≡ length indices - k
      before = ap (view_left_at (length indices) p) e

      either : (b : Bool) → nat_lt (k + 1) (length indices) ≡ b → Keeps indices p (view_at_stage (with_value p (slice_index indices k) x) (if b then Value (k + 1) else Done))
      either true c = let l = before in let more = ltb-true (k + 1) (length indices) c in record
          { together = record { positions = w.positions; rows = values_for (slice_index indices k); collects = w.collects; stage = (more, (here (Value k) e).1) }; fewer = omega (arith, l, more) }
      either false c = let l = before in let below = (here (Value k) e).0 in record
          { together = record { positions = w.positions; rows = values_for (slice_index indices k); collects = w.collects; stage = tt }; fewer = omega (arith, l, below) }

  kept_at : (s : Stage) → p.0.stage ≡ s → IsPossibleInViewAt p.0.sizes s x → Keeps indices p (advance_view_at indices p s x)
  kept_at (Collect k) e possible = load_kept indices p k x w e possible
  kept_at (View stamp) e possible = view_kept stamp e possible
  kept_at (Len at) e possible = len_kept at e possible
  kept_at (Index at left) e possible = index_kept at left e possible
  kept_at (PairValue at left index) e possible = pair_kept at left index e
  kept_at (Value k) e possible = value_kept k e
  kept_at Done e possible = absurd possible

  pub kept : IsPossibleInView p x → Keeps indices p (advance_view indices p x)
  kept possible = kept_at p.0.stage refl possible

-- a scan that has made no step goes together with its buffers and its positions
pub fresh_together : (s : Layout) (shares : Bool) (indices : List ℕ) (rows : RowsState) → ArePositions s indices → AreRowsFor s rows → ViewGoesTogether indices (fresh_view s shares, rows)
fresh_together s shares indices rows positions for =
    let some = positions.some in
    record { positions = positions; rows = for; collects = omega (arith, some); stage = (some, omega arith, omega arith, λ k below. absurd (omega (arith, below))) }

pub fresh_left : (s : Layout) (shares : Bool) (indices : List ℕ) (rows : RowsState) → view_left indices (fresh_view s shares, rows) ≡ most_view_steps s (length indices)
fresh_left s shares indices rows = omega arith

-- the sizes stay
on_sizes : (r : ℕ) (p : ViewPair) (k : ℕ) (b c : Bool) → (if b then view_at_stage p (Collect (k + 1))
    else (if c then (record p.0 { collects = p.0.collects + 1; moved = false; stage = Collect 0 }, p.1) else view_at_stage p (Value 0))).0.sizes ≡ p.0.sizes
on_sizes r p k true c = refl
on_sizes r p k false true = refl
on_sizes r p k false false = refl

load_sizes : (r : ℕ) (p : ViewPair) (k x : ℕ) (b : Bool) → (if b then borrow p x else go_on r (noted_load p k x) k).0.sizes ≡ p.0.sizes
load_sizes r p k x true = refl
load_sizes r p k x false = on_sizes r (noted_load p k x) k (nat_lt (k + 1) r) (is_first p || (noted_load p k x).0.moved)

sizes_at : (indices : List ℕ) (p : ViewPair) (s : Stage) (x : ℕ) → (advance_view_at indices p s x).0.sizes ≡ p.0.sizes
sizes_at indices p (Collect k) x = load_sizes (length indices) p k x (differs p k x && was_changed p k)
sizes_at indices p (View stamp) x = refl
sizes_at indices p (Len at) x = refl
sizes_at indices p (Index at left) x = refl
sizes_at indices p (PairValue at left index) x = refl
sizes_at indices p (Value k) x = refl
sizes_at indices p Done x = refl

pub sizes_stay : (indices : List ℕ) (p : ViewPair) (x : ℕ) → (advance_view indices p x).0.sizes ≡ p.0.sizes
sizes_stay indices p x = sizes_at indices p p.0.stage x

-- a load of a collect takes back none that was begun
on_collects : (r : ℕ) (p : ViewPair) (k : ℕ) (b c : Bool) → p.0.collects ≤ (if b then view_at_stage p (Collect (k + 1))
    else (if c then (record p.0 { collects = p.0.collects + 1; moved = false; stage = Collect 0 }, p.1) else view_at_stage p (Value 0))).0.collects
on_collects r p k true c = omega arith
on_collects r p k false true = omega arith
on_collects r p k false false = omega arith

load_collects : (r : ℕ) (p : ViewPair) (k x : ℕ) (b : Bool) → p.0.collects ≤ (if b then borrow p x else go_on r (noted_load p k x) k).0.collects
load_collects r p k x true = omega arith
load_collects r p k x false = on_collects r (noted_load p k x) k (nat_lt (k + 1) r) (is_first p || (noted_load p k x).0.moved)

pub collects_grow : (r : ℕ) (p : ViewPair) (k x : ℕ) → p.0.collects ≤ (after_load r p k x).0.collects
collects_grow r p k x = load_collects r p k x (differs p k x && was_changed p k)
