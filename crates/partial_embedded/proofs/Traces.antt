-- What the answers so far say of the state in the middle of a collect, and how a scan's collects end.
use Rattle.partial_embedded.proofs.{Common.{◌-◌, ℕ, ◌≡◌, ◌≢◌, ◌+◌, ◌*◌, ◌<◌, ◌≤◌, ◌==◌, ◌++◌, Bool, true, false, if◌then◌else◌, not, ◌&&◌, ◌||◌, ◌⊎◌, List, [], ◌∷◌, length, slice_index_or, slice_index, refl, sym, ◌∙◌, ap, subst, inl, inr, arith, get_or-set_other, get_or-set_same, append_assoc, append-nil, length-append, nat_lt, eqb-true, eqb-false, eq-eqb, ne_eqb, ltb-false, cases_lt, false≢true, eqb_tells, get_or_append_left, mul-le-mul_left, Layout, pairs_word, next_word, Stage, Collect, View, Len, Index, PairValue, Value, Done, ViewPair, RowsState, ViewGoesTogether, view_goes_at, fresh_view, advance_view, advance_view_at, is_first, differs, was_changed, noted_load, borrow, go_on, after_collect, after_load, after_view, view_at_stage, with_value, pairs_from, IsPossibleInViewAt, ViewRun, load_in, Changes, LastTwoAreEqual, ShowsThirdRecord, EndsInEqualCollectsOrAThirdRecord}, Keeps.{kept, fresh_together, neither}}
use Rattle.std.proofs.Math.Seq.{get_or-append_seam}

-- one answer more
one_longer : (xs : List ℕ) (x : ℕ) → length (xs ++ x ∷ []) ≡ length xs + 1
one_longer xs x = length-append xs (x ∷ [])

-- a position has changed by collect c, of which the first k positions were loaded
pub record HasChanged (r : ℕ) (xs : List ℕ) (c k i : ℕ) : Type 0 where
  collect : ℕ
  by : collect + 1 ≤ c
  loaded : collect + 1 ≡ c → i < k
  changes : Changes r xs collect i

-- in collect c, of which the first k positions were loaded
pub record Traced (r : ℕ) (p : ViewPair) (k : ℕ) (xs : List ℕ) : Type 0 where
  c : ℕ
  collects : p.0.collects ≡ c + 1
  long : length xs ≡ r * c + k
  now : (i : ℕ) → i < k → slice_index p.1.last i ≡ load_in r xs c i
  before : (b : ℕ) → c ≡ b + 1 → (i : ℕ) → k ≤ i → i < r → slice_index p.1.last i ≡ load_in r xs b i
  cleared : c ≡ 0 → (i : ℕ) → i < k → slice_index_or p.1.changed i false ≡ false
  changed : (b : ℕ) → c ≡ b + 1 → (i : ℕ) → i < r → slice_index_or p.1.changed i false ≡ true → HasChanged r xs c k i
  unmoved : (b : ℕ) → c ≡ b + 1 → p.0.moved ≡ false → (i : ℕ) → i < k → load_in r xs c i ≡ load_in r xs b i

-- what the answers so far say at a stage
abbrev pub trace_at : ℕ → ViewPair → List ℕ → Stage → Type 0
trace_at r p xs (Collect k) = Traced r p k xs
trace_at r p xs (View stamp) = ShowsThirdRecord r xs p.0.collects stamp
trace_at r p xs (Value k) = k ≡ 0 → LastTwoAreEqual r xs p.0.collects
trace_at r p xs _ = Unit {0}

-- a load of an earlier collect stays where it was
module _ (r : ℕ) (xs : List ℕ) (x c k : ℕ) (long : length xs ≡ r * c + k) (within : k < r) where
  load_old : (a i : ℕ) → r * a + i < r * c + k → load_in r (xs ++ x ∷ []) a i ≡ load_in r xs a i
  load_old a i less = get_or_append_left xs (x ∷ []) 0 (r * a + i) (omega (arith, long, less))

  load_here : load_in r (xs ++ x ∷ []) c k ≡ x
  load_here = ap (λ n. slice_index (xs ++ x ∷ []) n) (sym long) ∙ get_or-append_seam xs x [] 0

  -- a position of an earlier collect
  earlier : (a i : ℕ) → i < r → a + 1 ≤ c → r * a + i < r * c + k
  earlier a i inside le = let times = mul-le-mul_left r le in omega (arith, times, inside)

  -- of this collect
  here : (i : ℕ) → i < k → r * c + i < r * c + k
  here i below = omega (arith, below)

  -- what has changed stays changed
  changes_old : (i : ℕ) → i < r → (h : HasChanged r xs c k i) → Changes r (xs ++ x ∷ []) h.collect i
  changes_old i inside h =
      let by = h.by in
      let next : r * (h.collect + 1) + i < r * c + k = elim (cases_lt (h.collect + 1) c) [
        | inl less ↦ earlier (h.collect + 1) i inside (omega (arith, less))
        | inr from ↦ let is : h.collect + 1 ≡ c = omega (arith, by, from) in let below = h.loaded is in subst (λ n. r * n + i < r * c + k) (sym is) (here i below)
      ] in
      λ e. h.changes (sym (load_old h.collect i (earlier h.collect i inside by)) ∙ e ∙ load_old (h.collect + 1) i next)

  changed_old : (i : ℕ) → i < r → HasChanged r xs c k i → HasChanged r (xs ++ x ∷ []) c (k + 1) i
  changed_old i inside h = record { collect = h.collect; by = h.by; loaded = λ e. let below = h.loaded e in omega (arith, below); changes = changes_old i inside h }

-- a differing load
is_differing : (f e : Bool) → f ≡ false → (not f && not e) ≡ true → e ≡ false
is_differing false true f d = absurd (false≢true d)
is_differing false false f d = refl
is_differing true e f d = absurd (false≢true (sym f))

is_same : (f e : Bool) → f ≡ false → (not f && not e) ≡ false → e ≡ true
is_same false true f d = refl
is_same false false f d = absurd (false≢true (sym d))
is_same true e f d = absurd (false≢true (sym f))

one_of : (a b : Bool) → (a || b) ≡ true → (a ≡ true) ⊎ (b ≡ true)
one_of true b e = inl refl
one_of false b e = inr e

module _ (r : ℕ) (p : ViewPair) (k x : ℕ) (xs : List ℕ) (t : Traced r p k xs) (within : k < r) (last_room : k < length p.1.last) (changed_room : k < length p.1.changed) where
  first_is : (b : ℕ) → t.c ≡ b + 1 → is_first p ≡ false
  first_is b e = let collects = t.collects in ne_eqb p.0.collects 1 (λ one. omega (arith, collects, one, e))

  only_first : t.c ≡ 0 → is_first p ≡ true
  only_first e = let collects = t.collects in eq-eqb p.0.collects 1 (omega (arith, collects, e))

  -- the load of position k before this one
  last_is : (b : ℕ) → t.c ≡ b + 1 → slice_index p.1.last k ≡ load_in r xs b k
  last_is b e = t.before b e k (omega arith) within

  now_is : load_in r (xs ++ x ∷ []) t.c k ≡ x
  now_is = load_here r xs x t.c k t.long within

  before_is : (b : ℕ) → t.c ≡ b + 1 → (i : ℕ) → i < r → load_in r (xs ++ x ∷ []) b i ≡ load_in r xs b i
  before_is b e i inside = load_old r xs x t.c k t.long within b i (earlier r xs x t.c k t.long within b i inside (omega (arith, e)))

  -- a third record
  third : (b : ℕ) → t.c ≡ b + 1 → (differs p k x && was_changed p k) ≡ true → ShowsThirdRecord r (xs ++ x ∷ []) p.0.collects x
  third b e both =
      let first = first_is b e in
      let d : differs p k x ≡ true = and_left (differs p k x) (was_changed p k) both in
      let other : (slice_index p.1.last k == x) ≡ false = is_differing (is_first p) (slice_index p.1.last k == x) first d in
      let was : slice_index_or p.1.changed k false ≡ true = sym (ap (λ (f : Bool). not f && slice_index_or p.1.changed k false) first) ∙ and_right (differs p k x) (was_changed p k) both in
      let h = t.changed b e k within was in
      let by = h.by in
      let not_last : h.collect + 1 ≢ t.c = λ same. let below = h.loaded same in omega (arith, below) in
      let collects = t.collects in
      let next : load_in r (xs ++ x ∷ []) (b + 1) k ≡ x = ap (λ n. load_in r (xs ++ x ∷ []) n k) (sym e) ∙ now_is in
      record {
        position = k;
        within = within;
        first = h.collect;
        second = b;
        order = omega (arith, e, by, not_last);
        changes = changes_old r xs x t.c k t.long within k within h;
        again = λ same. eqb-false (slice_index p.1.last k) x other (last_is b e ∙ sym (before_is b e k within) ∙ same ∙ next);
        last = omega (arith, collects, e);
        shown = next;
        left = let l = one_longer xs x in let long = t.long in let times : r * t.c ≡ r * (b + 1) = ap (λ n. r * n) e in omega (arith, l, long, times);
      }
    where
      and_left : (a b : Bool) → (a && b) ≡ true → a ≡ true
      and_left true b e = refl
      and_left false b e = absurd (false≢true e)

      and_right : (a b : Bool) → (a && b) ≡ true → b ≡ true
      and_right true b e = e
      and_right false b e = absurd (false≢true e)

  -- the latest loads and the marks once the load is noted
  last_new : slice_index (noted_load p k x).1.last k ≡ x
  last_new = get_or-set_same p.1.last k x 0 last_room

  last_kept : (i : ℕ) → i ≢ k → slice_index (noted_load p k x).1.last i ≡ slice_index p.1.last i
  last_kept i other = get_or-set_other p.1.last k i x 0 other

  mark_new : slice_index_or (noted_load p k x).1.changed k false ≡ (differs p k x || was_changed p k)
  mark_new = get_or-set_same p.1.changed k (differs p k x || was_changed p k) false changed_room

  mark_kept : (i : ℕ) → i ≢ k → slice_index_or (noted_load p k x).1.changed i false ≡ slice_index_or p.1.changed i false
  mark_kept i other = get_or-set_other p.1.changed k i (differs p k x || was_changed p k) false other

  now_next : (i : ℕ) → i < k + 1 → slice_index (noted_load p k x).1.last i ≡ load_in r (xs ++ x ∷ []) t.c i
  now_next i below = elim (eqb_tells i k) [
    | inl e ↦ ap (λ n. slice_index (noted_load p k x).1.last n) e.1 ∙ last_new ∙ sym now_is ∙ ap (λ n. load_in r (xs ++ x ∷ []) t.c n) (sym e.1)
    | inr e ↦ let less : i < k = omega (arith, below, e.1) in last_kept i e.1 ∙ t.now i less ∙ sym (load_old r xs x t.c k t.long within t.c i (here r xs x t.c k t.long within i less))
  ]

  cleared_next : t.c ≡ 0 → (i : ℕ) → i < k + 1 → slice_index_or (noted_load p k x).1.changed i false ≡ false
  cleared_next first i below = elim (eqb_tells i k) [
    | inl e ↦ ap (λ n. slice_index_or (noted_load p k x).1.changed n false) e.1 ∙ mark_new ∙ ap (λ (f : Bool). (not f && not (slice_index p.1.last k == x)) || (not f && slice_index_or p.1.changed k false)) (only_first first)
    | inr e ↦ mark_kept i e.1 ∙ t.cleared first i (omega (arith, below, e.1))
  ]

  changed_next : (b : ℕ) → t.c ≡ b + 1 → (i : ℕ) → i < r → slice_index_or (noted_load p k x).1.changed i false ≡ true → HasChanged r (xs ++ x ∷ []) t.c (k + 1) i
  changed_next b later i inside marked = elim (eqb_tells i k) [
    | inl e ↦ subst (HasChanged r (xs ++ x ∷ []) t.c (k + 1)) (sym e.1)
        (elim (one_of (differs p k x) (was_changed p k) (sym mark_new ∙ ap (λ n. slice_index_or (noted_load p k x).1.changed n false) (sym e.1) ∙ marked)) [
          | inl d ↦
              let other : (slice_index p.1.last k == x) ≡ false = is_differing (is_first p) (slice_index p.1.last k == x) (first_is b later) d in
              let next : load_in r (xs ++ x ∷ []) (b + 1) k ≡ x = ap (λ n. load_in r (xs ++ x ∷ []) n k) (sym later) ∙ now_is in
              record {
                collect = b;
                by = omega (arith, later);
                loaded = λ _. omega arith;
                changes = λ same. eqb-false (slice_index p.1.last k) x other
                    (last_is b later ∙ sym (before_is b later k within) ∙ same ∙ next);
              }
          | inr d ↦ changed_old r xs x t.c k t.long within k within (t.changed b later k within (sym (ap (λ (f : Bool). not f && slice_index_or p.1.changed k false) (first_is b later)) ∙ d))
        ])
    | inr e ↦ changed_old r xs x t.c k t.long within i inside (t.changed b later i inside (sym (mark_kept i e.1) ∙ marked))
  ]

  unmoved_next : (b : ℕ) → t.c ≡ b + 1 → (noted_load p k x).0.moved ≡ false → (i : ℕ) → i < k + 1 → load_in r (xs ++ x ∷ []) t.c i ≡ load_in r (xs ++ x ∷ []) b i
  unmoved_next b later still i below =
      let both = neither p.0.moved (differs p k x) still in
      elim (eqb_tells i k) [
        | inl e ↦
            let same : slice_index p.1.last k ≡ x = eqb-true (slice_index p.1.last k) x (is_same (is_first p) (slice_index p.1.last k == x) (first_is b later) both.1) in
            subst (λ n. load_in r (xs ++ x ∷ []) t.c n ≡ load_in r (xs ++ x ∷ []) b n) (sym e.1) (now_is ∙ sym same ∙ last_is b later ∙ sym (before_is b later k within))
        | inr e ↦
            let less : i < k = omega (arith, below, e.1) in
            load_old r xs x t.c k t.long within t.c i (here r xs x t.c k t.long within i less) ∙ t.unmoved b later both.0 i less ∙ sym (before_is b later i (omega (arith, less, within)))
      ]

  -- the load is noted
  noted_traced : Traced r (noted_load p k x) (k + 1) (xs ++ x ∷ [])
  noted_traced = record {
    c = t.c;
    collects = t.collects;
    long = let l = one_longer xs x in let long = t.long in omega (arith, l, long);
    now = now_next;
    before = λ b later i from inside. last_kept i (omega (arith, from)) ∙ t.before b later i (omega (arith, from)) inside ∙ sym (before_is b later i inside);
    cleared = cleared_next;
    changed = changed_next;
    unmoved = unmoved_next;
  }

-- the same at another stage
retraced : (r : ℕ) (q : ViewPair) (s : Stage) (k : ℕ) (xs : List ℕ) → Traced r q k xs → Traced r (view_at_stage q s) k xs
retraced r q s k xs t = record { c = t.c; collects = t.collects; long = t.long; now = t.now; before = t.before; cleared = t.cleared; changed = t.changed; unmoved = t.unmoved }

-- a whole collect that was the first or has shown a change: another one begins
again_traced : (r : ℕ) (q : ViewPair) (k : ℕ) (xs : List ℕ) → r ≡ k + 1 → Traced r q (k + 1) xs → Traced r (record q.0 { collects = q.0.collects + 1; moved = false; stage = Collect 0 }, q.1) 0 xs
again_traced r q k xs last t =
    record {
      c = t.c + 1;
      collects = let collects = t.collects in omega (arith, collects);
      long = let long = t.long in omega (arith, long, last);
      now = λ i below. absurd (omega (arith, below));
      before = λ b later i from inside. let is : t.c ≡ b = omega (arith, later) in t.now i (omega (arith, inside, last)) ∙ ap (λ n. load_in r xs n i) is;
      cleared = λ first. absurd (omega (arith, first));
      changed = λ b later i inside marked. elim (cases_lt 0 t.c) [
        | inl some ↦
            let h = t.changed (t.c - 1) (omega (arith, some)) i inside marked in
            let by = h.by in
            record { collect = h.collect; by = omega (arith, by); loaded = λ e. absurd (omega (arith, by, e)); changes = h.changes }
        | inr none ↦ absurd (false≢true (sym (t.cleared (omega (arith, none)) i (omega (arith, inside, last))) ∙ marked))
      ];
      unmoved = λ b later still i below. absurd (omega (arith, below));
    }

-- a whole collect that was not the first and has shown no change: it equals the one before
still_equal : (r : ℕ) (q : ViewPair) (k : ℕ) (xs : List ℕ) → r ≡ k + 1 → Traced r q (k + 1) xs → (is_first q || q.0.moved) ≡ false → LastTwoAreEqual r xs q.0.collects
still_equal r q k xs last t e =
    let both = neither (is_first q) q.0.moved e in
    let collects = t.collects in
    let not_one = eqb-false q.0.collects 1 both.0 in
    let later : t.c ≡ t.c - 1 + 1 = omega (arith, collects, not_one) in
    let times : r * t.c ≡ r * (t.c - 1 + 1) = ap (λ n. r * n) later in
    let long = t.long in
    record {
      before = t.c - 1;
      count = omega (arith, collects, later);
      whole = omega (arith, long, last, times);
      equal = λ i inside. sym (t.unmoved (t.c - 1) later both.1 i (omega (arith, inside, last))) ∙ ap (λ n. load_in r xs n i) later;
    }

module _ (indices : List ℕ) (p : ViewPair) (x : ℕ) (xs : List ℕ) (w : ViewGoesTogether indices p) where
  -- what is known of a stage that says nothing
  done_or : (q : ViewPair) (ys : List ℕ) (b : Bool) (s : Stage) → trace_at (length indices) q ys s → trace_at (length indices) q ys (if b then Done else s)
  done_or q ys true s t = tt
  done_or q ys false s t = t

  collect_traced : (k : ℕ) → k < length indices → Traced (length indices) p k xs → trace_at (length indices) (after_load (length indices) p k x) (xs ++ x ∷ [])
      (after_load (length indices) p k x).0.stage
  collect_traced k within t = either (differs p k x && was_changed p k) refl
    where
      r : ℕ
      r = length indices

      last_room : k < length p.1.last
      last_room = omega (arith, within, w.positions.few, w.rows.last)

      changed_room : k < length p.1.changed
      changed_room = omega (arith, within, w.positions.few, w.rows.changed)

      traced : Traced (length indices) (noted_load p k x) (k + 1) (xs ++ x ∷ [])
      traced = noted_traced (length indices) p k x xs t within last_room changed_room

      third_here : (differs p k x && was_changed p k) ≡ true → ShowsThirdRecord (length indices) (xs ++ x ∷ []) p.0.collects x
      third_here both = elim (cases_lt 0 t.c) [
        | inl some ↦ third (length indices) p k x xs t within last_room changed_room (t.c - 1) (omega (arith, some)) both
        | inr none ↦ absurd (false≢true (sym (ap (λ (f : Bool). (not f && not (slice_index p.1.last k == x)) && was_changed p k)
            (only_first (length indices) p k x xs t within last_room changed_room (omega (arith, none)))) ∙ both))
      ]

      whole : length indices ≡ k + 1 → (b : Bool) → (is_first p || (noted_load p k x).0.moved) ≡ b → let q =
          (if b then (record (noted_load p k x).0 { collects = p.0.collects + 1; moved = false; stage = Collect 0 }, (noted_load p k x).1) else view_at_stage (noted_load p k x) (Value 0)) in
          trace_at (length indices) q
          (xs ++ x ∷ []) q.0.stage
      whole last true e = again_traced (length indices) (noted_load p k x) k (xs ++ x ∷ []) last traced
      whole last false e = λ _. still_equal (length indices) (noted_load p k x) k (xs ++ x ∷ []) last traced e

      on_from : (b : Bool) → nat_lt (k + 1) (length indices) ≡ b → let q = (if b then view_at_stage (noted_load p k x) (Collect (k + 1)) else after_collect (noted_load p k x)) in
          trace_at (length indices) q
          (xs ++ x ∷ []) q.0.stage
      on_from true e = retraced (length indices) (noted_load p k x) (Collect (k + 1)) (k + 1) (xs ++ x ∷ []) traced
      on_from false e = let past = ltb-false (k + 1) (length indices) e in whole (omega (arith, past, within)) (is_first p || (noted_load p k x).0.moved) refl

      either : (b : Bool) → (differs p k x && was_changed p k) ≡ b → let q = (if b then borrow p x else go_on (length indices) (noted_load p k x) k) in
          trace_at (length indices) q (xs ++ x ∷ []) q.0.stage
      either true e = third_here e
      either false e = on_from (nat_lt (k + 1) (length indices)) refl

  value_traced : (q : ViewPair) (ys : List ℕ) (k : ℕ) (b : Bool) → trace_at (length indices) q ys (if b then Value (k + 1) else Done)
  value_traced q ys k true = λ e. absurd (omega (arith, e))
  value_traced q ys k false = tt

  pub step_traced : (s : Stage) → view_goes_at indices p s → IsPossibleInViewAt p.0.sizes s x → trace_at (length indices) p xs s →
      trace_at (length indices) (advance_view_at indices p s x) (xs ++ x ∷ [])
      (advance_view_at indices p s x).0.stage
  step_traced (Collect k) goes possible t = collect_traced k goes.0 t
  step_traced (View stamp) goes possible t = done_or (after_view p.0 x, p.1) (xs ++ x ∷ []) ((x == 0) || p.0.shares) (Len x) tt
  step_traced (Len at) goes possible t = done_or (view_at_stage p (pairs_from (pairs_word at) x)) (xs ++ x ∷ []) (x == 0) (Index (pairs_word at) x) tt
  step_traced (Index at left) goes possible t = tt
  step_traced (PairValue at left index) goes possible t = done_or (view_at_stage (with_value p index x) (pairs_from (next_word at) (left - 1))) (xs ++ x ∷ []) (left - 1 == 0)
      (Index (next_word at) (left - 1)) tt
  step_traced (Value k) goes possible t = value_traced (view_at_stage (with_value p (slice_index indices k) x) (if nat_lt (k + 1) (length indices) then Value (k + 1) else Done)) (xs ++ x ∷ []) k
      (nat_lt (k + 1) (length indices))
  step_traced Done goes possible t = absurd possible

-- over a run
pub run_traced : (indices : List ℕ) (p : ViewPair) (past xs : List ℕ) (q : ViewPair) → ViewGoesTogether indices p → trace_at (length indices) p past p.0.stage → ViewRun indices p xs q →
    trace_at (length indices) q (past ++ xs) q.0.stage
run_traced indices p past [] q w t is =
    subst (λ (l : List ℕ). trace_at (length indices) q l q.0.stage) (sym (append-nil past)) (subst (λ (u : ViewPair). trace_at (length indices) u past u.0.stage) (sym is) t)
run_traced indices p past (x ∷ xs) q w t run =
    subst (λ (l : List ℕ). trace_at (length indices) q l q.0.stage) (append_assoc past (x ∷ []) xs)
    (run_traced indices (advance_view indices p x) (past ++ x ∷ []) xs q (kept indices p x w run.0).together (step_traced indices p x past w p.0.stage w.stage run.0 t) run.1)

pub fresh_traced : (s : Layout) (shares : Bool) (rows : RowsState) (r : ℕ) → Traced r (fresh_view s shares, rows) 0 []
fresh_traced s shares rows r = record {
  c = 0;
  collects = refl;
  long = omega arith;
  now = λ i below. absurd (omega (arith, below));
  before = λ b later. absurd (omega (arith, later));
  cleared = λ first i below. absurd (omega (arith, below));
  changed = λ b later. absurd (omega (arith, later));
  unmoved = λ b later. absurd (omega (arith, later));
}

pub ends_in_equal_collects_or_a_third_record : EndsInEqualCollectsOrAThirdRecord
ends_in_equal_collects_or_a_third_record s shares indices rows xs q w =
    let t : trace_at (length indices) q xs q.0.stage = run_traced indices (fresh_view s shares, rows) [] xs q (fresh_together s shares indices rows w.0 w.1)
    (fresh_traced s shares rows (length indices)) w.2 in
    (λ e. let v : trace_at (length indices) q xs (Value 0) = subst (trace_at (length indices) q xs) e t in v refl, λ stamp e. subst (trace_at (length indices) q xs) e t)
