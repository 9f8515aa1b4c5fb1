-- How a finished scan has ended.
use Rattle.partial_embedded.proofs.{Common.{ℕ, zero, suc, ◌≡◌, ◌+◌, ◌-◌, ◌<◌, ◌==◌, ◌++◌, Bool, true, false, if◌then◌else◌, ◌||◌, ◌&&◌, Some, None, List, [], ◌∷◌, length, take, slice_index, slice_set, refl, sym, ◌∙◌, ap, subst, arith, append_assoc, append-nil, nat_lt, ltb-false, length_push, pairs_word, next_word, Stage, Collect, View, Len, Index, PairValue, Value, Done, ViewPair, ViewGoesTogether, view_goes_at, fresh_view, advance_view, advance_view_at, is_first, differs, was_changed, noted_load, borrow, after_view, view_at_stage, with_value, pairs_from, IsPossibleInViewAt, ViewRun, LastTwoAreEqual, ShowsThirdRecord, written_values, LoadsValues, LoadsView, EndsWell, FinishedScansEndWell}, Keeps.{kept, fresh_together}, Traces.{trace_at, step_traced, fresh_traced}}

-- the loads of some view
pub record Views (r : ℕ) (xs : List ℕ) (q : ViewPair) : Type 0 where
  pub stamp : ℕ
  pub loads : LoadsView r xs q stamp

-- what is known at a stage of how the scan ends
abbrev ending_at : List ℕ → ViewPair → List ℕ → Stage → Type 0
ending_at indices p xs (Collect k) = p.0.borrowed ≡ None
ending_at indices p xs (Value k) = LoadsValues indices xs p k × (p.0.borrowed ≡ None)
ending_at indices p xs (View stamp) = (p.0.borrowed ≡ Some stamp) × ShowsThirdRecord (length indices) xs p.0.collects stamp
ending_at indices p xs Done = EndsWell indices xs p
ending_at indices p xs _ = Views (length indices) xs p

-- one value more
written_push : (js loads values : List ℕ) (k x : ℕ) → k < length js → length loads ≡ k → written_values (take (suc k) js) (loads ++ x ∷ []) values ≡ slice_set (written_values (take k js) loads values) (slice_index js k) x
written_push [] loads values k x below long = absurd (omega (arith, below))
written_push (j ∷ js) [] values zero x below long = refl
written_push (j ∷ js) [] values (suc k) x below long = absurd (omega (arith, long))
written_push (j ∷ js) (l ∷ loads) values zero x below long = absurd (omega (arith, long))
written_push (j ∷ js) (l ∷ loads) values (suc k) x below long = written_push js loads (slice_set values j l) k x (omega (arith, below)) (omega (arith, long))

module _ (indices : List ℕ) (p : ViewPair) (x : ℕ) (xs : List ℕ) where
  -- a scan that has loaded a view ends with it
  view_ends : (q : ViewPair) (ys : List ℕ) → Views (length indices) ys q → EndsWell indices ys q
  view_ends q ys v = let loads = v.loads in record {
    own = λ none. let bad : Some v.stamp ≡ None = sym loads.borrowed ∙ none in absurd cc;
    shared = λ stamp some. let same : v.stamp ≡ stamp = let e : Some v.stamp ≡ Some stamp = sym loads.borrowed ∙ some in cc in subst (LoadsView (length indices) ys q) same loads;
  }

  -- one more load of the view
  more_view : (q : ViewPair) → Views (length indices) xs p → q.0.collects ≡ p.0.collects → q.0.borrowed ≡ p.0.borrowed → q.0.view ≡ p.0.view → Views (length indices) (xs ++ x ∷ []) q
  more_view q v collects borrowed view = let l = v.loads in record {
    stamp = v.stamp;
    loads = record {
      front = l.front;
      behind = l.behind ++ x ∷ [];
      is = ap (λ (ys : List ℕ). ys ++ x ∷ []) l.is ∙ append_assoc l.front (p.0.view ∷ l.behind) (x ∷ []) ∙ ap (λ n. l.front ++ n ∷ (l.behind ++ x ∷ [])) (sym view);
      third = subst (λ n. ShowsThirdRecord (length indices) l.front n v.stamp) (sym collects) l.third;
      borrowed = borrowed ∙ l.borrowed;
    };
  }

  -- the load of the reference of the view
  first_view : (q : ViewPair) (stamp : ℕ) → p.0.borrowed ≡ Some stamp → ShowsThirdRecord (length indices) xs p.0.collects stamp → q.0.collects ≡ p.0.collects → q.0.borrowed ≡ p.0.borrowed →
      q.0.view ≡ x → Views (length indices) (xs ++ x ∷ []) q
  first_view q stamp some third collects borrowed view = record {
    stamp = stamp;
    loads = record {
      front = xs;
      behind = [];
      is = ap (λ n. xs ++ n ∷ []) (sym view);
      third = subst (λ n. ShowsThirdRecord (length indices) xs n stamp) (sym collects) third;
      borrowed = borrowed ∙ some;
    };
  }

  -- the view goes on, or it is whole
  view_or : (q : ViewPair) (b : Bool) (s : Stage) → Views (length indices) (xs ++ x ∷ []) q → (Views (length indices) (xs ++ x ∷ []) q → ending_at indices q (xs ++ x ∷ []) s) →
      ending_at indices q (xs ++ x ∷ []) (if b then Done else s)
  view_or q true s v f = view_ends q (xs ++ x ∷ []) v
  view_or q false s v f = f v

  -- a whole view of so many pairs, or the next of them
  pairs_end : (v : ViewPair) (at left : ℕ) (b : Bool) → Views (length indices) (xs ++ x ∷ []) (view_at_stage v (if b then Done else Index at left)) → let q =
      view_at_stage v (if b then Done else Index at left) in ending_at indices q (xs ++ x ∷ []) q.0.stage
  pairs_end v at left true w = view_ends (view_at_stage v Done) (xs ++ x ∷ []) w
  pairs_end v at left false w = w

  -- after a load of a collect
  collect_ends : (k : ℕ) → p.0.borrowed ≡ None → (b c d : Bool) → let q =
      (if b then borrow p x else (if c then view_at_stage (noted_load p k x) (Collect (k + 1))
      else (if d then (record (noted_load p k x).0 { collects = p.0.collects + 1; moved = false; stage = Collect 0 }, (noted_load p k x).1)
      else view_at_stage (noted_load p k x) (Value 0)))) in trace_at (length indices) q (xs ++ x ∷ []) q.0.stage → ending_at indices q (xs ++ x ∷ []) q.0.stage
  collect_ends k none true c d t = (refl, t)
  collect_ends k none false true d t = none
  collect_ends k none false false true t = none
  collect_ends k none false false false t = (
    record {
      front = xs ++ x ∷ [];
      loads = [];
      is = sym (append-nil (xs ++ x ∷ []));
      count = refl;
      equal = t refl;
      before = p.1.values;
      values = refl;
    },
    none,
  )

  -- after the load of a value
  value_ends : (k : ℕ) → k < length indices → LoadsValues indices xs p k → p.0.borrowed ≡ None → (b : Bool) → nat_lt (k + 1) (length indices) ≡ b → let q =
      view_at_stage (with_value p (slice_index indices k) x) (if b then Value (k + 1) else Done) in ending_at indices q (xs ++ x ∷ []) q.0.stage
  value_ends k below l none b e = by b e
    where
      next : (q : ViewPair) → q.0.collects ≡ p.0.collects → q.1.values ≡ slice_set p.1.values (slice_index indices k) x → LoadsValues indices (xs ++ x ∷ []) q (k + 1)
      next q collects values =
          let one : suc k ≡ k + 1 = omega arith in
          let count = l.count in
          let pushed : written_values (take (k + 1) indices) (l.loads ++ x ∷ []) l.before ≡ slice_set (written_values (take k indices) l.loads l.before) (slice_index indices k) x =
          ap (λ n. written_values (take n indices) (l.loads ++ x ∷ []) l.before) (sym one) ∙ written_push indices l.loads l.before k x below count in
          record {
            front = l.front;
            loads = l.loads ++ x ∷ [];
            is = ap (λ (ys : List ℕ). ys ++ x ∷ []) l.is ∙ append_assoc l.front l.loads (x ∷ []);
            count = length_push l.loads x ∙ ap (λ n. n + 1) count;
            equal = subst (LastTwoAreEqual (length indices) l.front) (sym collects) l.equal;
            before = l.before;
            values = values ∙ ap (λ (vs : List ℕ). slice_set vs (slice_index indices k) x) l.values ∙ sym pushed;
          }

      by : (b : Bool) → nat_lt (k + 1) (length indices) ≡ b → let q = view_at_stage (with_value p (slice_index indices k) x) (if b then Value (k + 1) else Done) in
          ending_at indices q (xs ++ x ∷ []) q.0.stage
      by true e = (next (view_at_stage (with_value p (slice_index indices k) x) (Value (k + 1))) refl refl, none)
      by false e =
          let past = ltb-false (k + 1) (length indices) e in
          let last : k + 1 ≡ length indices = omega (arith, past, below) in
          let q = view_at_stage (with_value p (slice_index indices k) x) Done in
          record {
            own = λ _. subst (LoadsValues indices (xs ++ x ∷ []) q) last (next q refl refl);
            shared = λ stamp some. let bad : None ≡ Some stamp = sym none ∙ some in absurd cc;
          }

  step_ends : (s : Stage) → view_goes_at indices p s → IsPossibleInViewAt p.0.sizes s x → ending_at indices p xs s → let q = advance_view_at indices p s x in
      trace_at (length indices) q (xs ++ x ∷ []) q.0.stage →
      ending_at indices q (xs ++ x ∷ []) q.0.stage
  step_ends (Collect k) goes possible none t = collect_ends k none (differs p k x && was_changed p k) (nat_lt (k + 1) (length indices)) (is_first p || (noted_load p k x).0.moved) t
  step_ends (View stamp) goes possible w t =
      let q : ViewPair = (after_view p.0 x, p.1) in
      view_or q ((x == 0) || p.0.shares) (Len x) (first_view q stamp w.0 w.1 refl refl refl) (λ v. v)
  step_ends (Len at) goes possible w t = pairs_end p (pairs_word at) x (x == 0) (more_view (view_at_stage p (pairs_from (pairs_word at) x)) w refl refl refl)
  step_ends (Index at left) goes possible w t = more_view (view_at_stage p (PairValue (next_word at) left x)) w refl refl refl
  step_ends (PairValue at left index) goes possible w t = pairs_end (with_value p index x) (next_word at) (left - 1) (left - 1 == 0)
      (more_view (view_at_stage (with_value p index x) (pairs_from (next_word at) (left - 1))) w refl refl refl)
  step_ends (Value k) goes possible w t = value_ends k goes.0 w.0 w.1 (nat_lt (k + 1) (length indices)) refl
  step_ends Done goes possible w t = absurd possible

-- over a run
run_ends : (indices : List ℕ) (p : ViewPair) (past xs : List ℕ) (q : ViewPair) → ViewGoesTogether indices p → trace_at (length indices) p past p.0.stage → ending_at indices p past p.0.stage →
    ViewRun indices p xs q →
    ending_at indices q (past ++ xs) q.0.stage
run_ends indices p past [] q w t n is =
    subst (λ (l : List ℕ). ending_at indices q l q.0.stage) (sym (append-nil past)) (subst (λ (u : ViewPair). ending_at indices u past u.0.stage) (sym is) n)
run_ends indices p past (x ∷ xs) q w t n run =
    let next = step_traced indices p x past w p.0.stage w.stage run.0 t in
    subst (λ (l : List ℕ). ending_at indices q l q.0.stage) (append_assoc past (x ∷ []) xs)
    (run_ends indices (advance_view indices p x) (past ++ x ∷ []) xs q (kept indices p x w run.0).together next (step_ends indices p x past p.0.stage w.stage run.0 n next) run.1)

pub finished_scans_end_well : FinishedScansEndWell
finished_scans_end_well s shares indices rows xs q w done =
    let n : ending_at indices q xs q.0.stage = run_ends indices (fresh_view s shares, rows) [] xs q (fresh_together s shares indices rows w.0 w.1) (fresh_traced s shares rows (length indices)) refl
    w.2 in
    subst (ending_at indices q xs) done n
