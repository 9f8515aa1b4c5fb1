-- How many steps a scan has made at each stage, from its beginning on.
use Rattle.partial_machine.proofs.{Common.{ℕ, ◌≡◌, ◌+◌, ◌-◌, ◌*◌, ◌<◌, ◌≤◌, ◌==◌, Bool, true, false, if◌then◌else◌, ◌&&◌, ◌||◌, List, [], ◌∷◌, length, slice_index, Option, Some, None, refl, sym, ◌∙◌, ap, subst, arith, false≢true, eqb-true, ltb-false, nat_lt, IsSome, option_map_or, Step, IsLayout, announcement_size, pairs_word, next_word, view_size, pairs_size, join_after, join_left, join_step, advance_join, JoinStage, Claiming, Storing, Joined, Spent, Reply, Stage, CoreState, at_stage, scanning, with_scanning, begin_joining, after_joining, pool_refused, fits_pool, advance, advance_at, reply_at, IsSound, is_sound_at, IsPossibleAt, Run, is_len, loads_len, pairs_loaded, AreOfScan, ScansMakeTheirSteps}, Sound.kept}
use Rattle.partial_embedded.specs.declared.embedded.Stage.{Stage as ViewStage}
use Rattle.partial_embedded.specs.declared.embedded.Stage.TheVariants.{Collect, View, Len, Index, PairValue, Value, Done}
use Rattle.partial_embedded.specs.Embedded as viewing
use Rattle.partial_machine.specs.declared.stage.Stage.TheVariants.{Idle, ReadBegun, LoadingValue, UpdateBegun, GettingSet, Viewing, ClaimingRecord, StoringRecord, Exchanging, ScanBegun, StoringAnnouncement, Joining, Scanning, Leaving, Finished}

-- the steps that an embedded scan of r positions has made at a stage, where n pairs were announced
abbrev pub counted_at : ℕ → viewing.ViewPair → ℕ → ℕ → ViewStage → Type 0
counted_at r p made n (Collect k) = (made + r ≡ r * p.0.collects + k) × (p.0.borrowed ≡ None)
counted_at r p made n (View stamp) = (made ≤ r * p.0.collects) × IsSome p.0.borrowed
counted_at r p made n (Len at) = (made ≤ r * p.0.collects + 1) × IsSome p.0.borrowed
counted_at r p made n (Index at left) = (made + pairs_size left ≤ r * p.0.collects + view_size n + 1) × IsSome p.0.borrowed
counted_at r p made n (PairValue at left index) = (made + pairs_size left ≤ r * p.0.collects + view_size n + 2) × IsSome p.0.borrowed
counted_at r p made n (Value k) = (made ≡ r * p.0.collects + k) × (p.0.borrowed ≡ None)
counted_at r p made n Done = (p.0.borrowed ≡ None → made ≡ r * p.0.collects + r) × (IsSome p.0.borrowed → made ≤ r * p.0.collects + view_size n + 1)

never : {P : Type 0} (o : Option ℕ) → o ≡ None → IsSome o → P
never o none some = absurd (false≢true (subst IsSome none some))

module _ (indices : List ℕ) (p : viewing.ViewPair) (made n x : ℕ) (w : viewing.ViewGoesTogether indices p) where
  r : ℕ
  r = length indices

  load_counted : (k : ℕ) → k < length indices → counted_at (length indices) p made n (Collect k) → (a b c : Bool) → nat_lt (k + 1) (length indices) ≡ b → let q = viewing.noted_load p k x in let v =
      (if a then viewing.borrow p x else (if b then viewing.view_at_stage q (Collect (k + 1))
      else (if c then (record q.0 { collects = q.0.collects + 1; moved = false; stage = Collect 0 }, q.1) else viewing.view_at_stage q (Value 0)))) in
      counted_at (length indices) v (made + 1) (n + 0) v.0.stage
  load_counted k within h true b c e = let made_is = h.0 in (omega (arith, made_is, within), refl)
  load_counted k within h false true c e = let made_is = h.0 in (omega (arith, made_is), h.1)
  load_counted k within h false false true e = let past = ltb-false (k + 1) (length indices) e in let made_is = h.0 in (omega (arith, made_is, within, past), h.1)
  load_counted k within h false false false e = let past = ltb-false (k + 1) (length indices) e in let made_is = h.0 in (omega (arith, made_is, within, past), h.1)

  view_counted : (stamp : ℕ) → counted_at (length indices) p made n (View stamp) → (b : Bool) → let v : viewing.ViewPair = (record p.0 { view = x; stage = (if b then Done else Len x) }, p.1) in
      counted_at
      (length indices) v (made + 1) (n + 0) v.0.stage
  view_counted stamp h true = let few = h.0 in (λ none. never p.0.borrowed none h.1, λ some. omega (arith, few))
  view_counted stamp h false = let few = h.0 in (omega (arith, few), h.1)

  pairs_counted : (at left more : ℕ) (v : viewing.ViewPair) → v.0.collects ≡ p.0.collects → v.0.borrowed ≡ p.0.borrowed → IsSome p.0.borrowed →
      made + 1 + pairs_size left ≤ length indices * p.0.collects + view_size (n + more) + 1 → (b : Bool) → let u = viewing.view_at_stage v (if b then Done else Index at left) in
      counted_at (length indices) u
      (made + 1) (n + more) u.0.stage
  pairs_counted at left more v same borrowed some few true =
      let times : length indices * v.0.collects ≡ length indices * p.0.collects = ap (λ c. length indices * c) same in
      (λ none. never p.0.borrowed (sym borrowed ∙ none) some, λ _. omega (arith, few, times))
  pairs_counted at left more v same borrowed some few false =
      let times : length indices * v.0.collects ≡ length indices * p.0.collects = ap (λ c. length indices * c) same in
      (omega (arith, few, times), subst IsSome (sym borrowed) some)

  value_counted : (k : ℕ) → k < length indices → counted_at (length indices) p made n (Value k) → (b : Bool) → nat_lt (k + 1) (length indices) ≡ b → let v =
      viewing.view_at_stage (viewing.with_value p (slice_index indices k) x) (if b then Value (k + 1) else Done) in counted_at (length indices) v (made + 1) (n + 0) v.0.stage
  value_counted k within h true e = let made_is = h.0 in (omega (arith, made_is), h.1)
  value_counted k within h false e =
      let past = ltb-false (k + 1) (length indices) e in
      let made_is = h.0 in
      (λ none. omega (arith, made_is, within, past), λ some. never p.0.borrowed h.1 some)

  -- over an answer
  step_counted : (s : ViewStage) → viewing.view_goes_at indices p s → viewing.IsPossibleInViewAt p.0.sizes s x → counted_at (length indices) p made n s → let q =
      viewing.advance_view_at indices p s x in counted_at
      (length indices) q (made + 1) (n + (if is_len s then x else 0)) q.0.stage
  step_counted (Collect k) goes possible h = load_counted k goes.0 h (viewing.differs p k x && viewing.was_changed p k) (nat_lt (k + 1) (length indices))
      (viewing.is_first p || (viewing.noted_load p k x).0.moved) refl
  step_counted (View stamp) goes possible h = view_counted stamp h ((x == 0) || p.0.shares)
  step_counted (Len at) goes possible h = let few = h.0 in pairs_counted (pairs_word at) x x p refl refl h.1 (omega (arith, few)) (x == 0)
  step_counted (Index at left) goes possible h = let few = h.0 in (omega (arith, few), h.1)
  step_counted (PairValue at left index) goes possible h = let few = h.0 in let some = goes.0 in pairs_counted (next_word at) (left - 1) 0 (viewing.with_value p index x) refl refl h.1
      (omega (arith, few, some)) (left - 1 == 0)
  step_counted (Value k) goes possible h = value_counted k goes.0 h (nat_lt (k + 1) (length indices)) refl
  step_counted Done goes possible h = absurd possible

-- the steps of a finished scan
abbrev pub ends_with : ℕ → ℕ → ℕ → Reply → Type 0
ends_with r made n (Reply.Scanned c borrowed) = AreOfScan r c n made borrowed
ends_with r made n _ = Unit {0}

-- the steps that a scan has made at a stage, where n pairs were announced
abbrev pub made_at : CoreState → ℕ → ℕ → Stage → Type 0
made_at s made n ScanBegun = made ≡ 0
made_at s made n (StoringAnnouncement at k) = made ≡ 1 + k
made_at s made n Joining = made + join_left s.join.stage ≡ length s.asked + 4
made_at s made n Scanning = (d : ℕ) × (made ≡ length s.asked + 4 + d) × counted_at (length s.asked) (scanning s) d n s.embedded.stage
made_at s made n Leaving = (d : ℕ) × (made ≡ length s.asked + 4 + d) × counted_at (length s.asked) (scanning s) d n Done
made_at s made n (Finished r) = ends_with (length s.asked) made n r
made_at s made n _ = ⊥

-- the same of the machine's own stage
abbrev pub Made : CoreState → ℕ → ℕ → Type 0
Made s made n = made_at s made n s.stage

-- an embedded scan with no step due is done
none_due : (indices last : List ℕ) (p : viewing.ViewPair) (s : ViewStage) → viewing.view_step_at p.0.sizes indices last s ≡ None → s ≡ Done
none_due indices last p Done e = refl
none_due indices last p (Collect k) e = cc
none_due indices last p (View stamp) e = cc
none_due indices last p (Len at) e = cc
none_due indices last p (Index at left) e = cc
none_due indices last p (PairValue at left index) e = cc
none_due indices last p (Value k) e = cc

module _ (s : CoreState) (layout : IsLayout s.sizes) (w : IsSound s) (made n x : ℕ) where
  sound_here : (t : Stage) → s.stage ≡ t → is_sound_at s t
  sound_here t e = subst (is_sound_at s) e w.stage

  claimed : s.stage ≡ ScanBegun → made ≡ 0 → (b : Bool) → let q = (if b then at_stage s (StoringAnnouncement x 0) else pool_refused s) in made_at q (made + 1) (n + 0) q.stage
  claimed e h true = omega (arith, h)
  claimed e h false = tt

  stored : (at k : ℕ) → made ≡ 1 + k → (b : Bool) → (k == length s.asked) ≡ b → let q = (if b then begin_joining s at else at_stage s (StoringAnnouncement at (k + 1))) in made_at q
      (made + 1) (n + 0) q.stage
  stored at k h true whole = let same = eqb-true k (length s.asked) whole in omega (arith, h, same)
  stored at k h false more = omega (arith, h)

  joined : s.stage ≡ Joining → made_at s made n Joining → Made (advance_at s Joining x) (made + 1) (n + 0)
  joined e h = by s.join.stage refl
    where
      q : CoreState
      q = record s { join = advance_join s.join x }

      due : IsSome (join_step s.join.sizes s.join.announcement s.join.stage)
      due = (sound_here Joining e).4

      still : s.join.stage ≡ Claiming → (b : Bool) → nat_lt x s.join.sizes.slots ≡ b → Made (after_joining q (if b then Storing x else Spent)) (made + 1) (n + 0)
      still j true within =
          let is : q.join.stage ≡ Storing x = ap (λ t. join_after s.join.sizes t x) j ∙ ap (λ b. if b then Storing x else Spent) within in
          let before : join_left s.join.stage ≡ 2 = ap join_left j in
          let after : join_left q.join.stage ≡ 1 = ap join_left is in
          let count : made_at q (made + 1) (n + 0) Joining = omega (arith, h, before, after) in
          subst (made_at q (made + 1) (n + 0)) (sym e) count
      still j false past = tt

      by : (j : JoinStage) → s.join.stage ≡ j → Made (after_joining q (join_after s.join.sizes j x)) (made + 1) (n + 0)
      by Claiming j = still j (nat_lt x s.join.sizes.slots) refl
      by (Storing slot) j =
          let before : join_left s.join.stage ≡ 1 = ap join_left j in
          (0, omega (arith, h, before), (omega arith, refl))
      by (Joined slot) j = absurd (false≢true (subst (λ t. IsSome (join_step s.join.sizes s.join.announcement t)) j due))
      by Spent j = absurd (false≢true (subst (λ t. IsSome (join_step s.join.sizes s.join.announcement t)) j due))

  scanned : s.stage ≡ Scanning → viewing.IsPossibleInView (scanning s) x → made_at s made n Scanning → Made (advance_at s Scanning x) (made + 1) (n + (if is_len s.embedded.stage then x else 0))
  scanned e possible h = either (viewing.view_step_due s.asked q) refl
    where
      more : ℕ
      more = n + (if is_len s.embedded.stage then x else 0)

      q : viewing.ViewPair
      q = viewing.advance_view s.asked (scanning s) x

      on : CoreState
      on = with_scanning s q

      counted : counted_at (length s.asked) q (h.0 + 1) (n + (if is_len s.embedded.stage then x else 0)) q.0.stage
      counted = let together = (sound_here Scanning e).0 in step_counted s.asked (scanning s) h.0 n x together s.embedded.stage together.stage possible h.2

      long : made + 1 ≡ length s.asked + 4 + (h.0 + 1)
      long = let made_is = h.1 in omega (arith, made_is)

      either : (o : Option Step) → viewing.view_step_due s.asked q ≡ o → Made (option_map_or (λ _. on) o (at_stage on Leaving)) (made + 1) (n + (if is_len s.embedded.stage then x else 0))
      either (Some step) due = subst (made_at on (made + 1) (n + (if is_len s.embedded.stage then x else 0))) (sym e) (h.0 + 1, long, counted)
      either None none = (h.0 + 1, long, subst (counted_at (length s.asked) q (h.0 + 1) (n + (if is_len s.embedded.stage then x else 0))) (none_due s.asked q.1.last q q.0.stage none) counted)

  left : made_at s made n Leaving → Made (advance_at s Leaving x) (made + 1) (n + 0)
  left h = record {
    own = λ none. let made_is = h.1 in let exact = h.2.0 none in omega (arith, made_is, exact);
    shared = λ stamp some. let made_is = h.1 in let few = h.2.1 (subst IsSome (sym some) refl) in omega (arith, made_is, few);
  }

  made_on : (t : Stage) → s.stage ≡ t → IsPossibleAt s t x → made_at s made n t → Made (advance_at s t x) (made + 1) (n + (if loads_len s t then x else 0))
  made_on Idle e possible h = absurd h
  made_on (ReadBegun j) e possible h = absurd h
  made_on (LoadingValue stamp) e possible h = absurd h
  made_on (UpdateBegun c) e possible h = absurd h
  made_on (GettingSet c old) e possible h = absurd h
  made_on (Viewing c old) e possible h = absurd h
  made_on (ClaimingRecord c old) e possible h = absurd h
  made_on (StoringRecord c old at k) e possible h = absurd h
  made_on (Exchanging c old at) e possible h = absurd h
  made_on ScanBegun e possible h = claimed e h (fits_pool s.sizes (announcement_size (length s.asked)) x)
  made_on (StoringAnnouncement at k) e possible h = stored at k h (k == length s.asked) refl
  made_on Joining e possible h = joined e h
  made_on Scanning e possible h = scanned e possible h
  made_on Leaving e possible h = left h
  made_on (Finished r) e possible h = absurd possible

-- over a run
run_made : (s t : CoreState) (xs : List ℕ) (made n : ℕ) → IsLayout s.sizes → IsSound s → Made s made n → Run s xs t → Made t (made + length xs) (n + pairs_loaded s xs) ×
    (length t.asked ≡ length s.asked)
run_made s t [] made n layout w h is =
    let none : made + 0 ≡ made = omega arith in
    let no_more : n + 0 ≡ n = omega arith in
    (subst (λ (v : CoreState). Made v (made + 0) (n + 0)) (sym is) (subst (λ m. Made s m (n + 0)) (sym none) (subst (Made s made) (sym no_more) h)), ap (λ (v : CoreState). length v.asked) is)
run_made s t (x ∷ xs) made n layout w h run =
    let k = kept s x layout w run.0 in
    let more = (if loads_len s s.stage then x else 0) in
    let rest = run_made (advance s x) t xs (made + 1) (n + more) (subst IsLayout (sym k.sizes) layout) k.sound (made_on s layout w made n x s.stage refl run.0 h) run.1 in
    let steps : made + 1 + length xs ≡ made + length (x ∷ xs) = omega arith in
    let pairs : n + more + pairs_loaded (advance s x) xs ≡ n + pairs_loaded s (x ∷ xs) = omega arith in
    (subst (λ m. Made t m (n + pairs_loaded s (x ∷ xs))) steps (subst (Made t (made + 1 + length xs)) pairs rest.0), rest.1 ∙ ap length k.positions)

-- a machine with a reply is finished
replied : (u : Stage) (r : Reply) → reply_at u ≡ Some r → u ≡ Finished r
replied Idle r e = cc
replied (ReadBegun j) r e = cc
replied (LoadingValue stamp) r e = cc
replied (UpdateBegun c) r e = cc
replied (GettingSet c old) r e = cc
replied (Viewing c old) r e = cc
replied (ClaimingRecord c old) r e = cc
replied (StoringRecord c old at k) r e = cc
replied (Exchanging c old at) r e = cc
replied ScanBegun r e = cc
replied (StoringAnnouncement at k) r e = cc
replied Joining r e = cc
replied Scanning r e = cc
replied Leaving r e = cc
replied (Finished q) r e = let same : q ≡ r = cc in ap (λ (v : Reply). Finished v) same

pub scans_make_their_steps : ScansMakeTheirSteps
scans_make_their_steps s t xs c borrowed layout w e run done =
    let begun : Made s 0 0 = subst (made_at s 0 0) (sym e) refl in
    let all = run_made s t xs 0 0 layout w begun run in
    let end : ends_with (length t.asked) (0 + length xs) (0 + pairs_loaded s xs) (Reply.Scanned c borrowed) = subst (made_at t (0 + length xs) (0 + pairs_loaded s xs))
    (replied t.stage (Reply.Scanned c borrowed) done) all.0 in
    let same = all.1 in
    let times : length t.asked * (c + 2) ≡ length s.asked * (c + 2) = ap (λ r. r * (c + 2)) same in
    let fewer : length t.asked * (c + 1) ≡ length s.asked * (c + 1) = ap (λ r. r * (c + 1)) same in
    record {
      own = λ none. let steps = end.own none in omega (arith, steps, times);
      shared = λ stamp some. let steps = end.shared stamp some in omega (arith, steps, fewer);
    }
