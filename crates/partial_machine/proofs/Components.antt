-- Which component words a call loads, and how its embedded scan ends, over every run.
use Rattle.partial_machine.proofs.{Common.{ℕ, ◌≡◌, ◌+◌, ◌-◌, ◌<◌, ◌≤◌, ◌⊎◌, inl, inr, ◌==◌, ◌&&◌, ◌++◌, Bool, true, false, if◌then◌else◌, min, not, Option, Some, None, List, [], ◌∷◌, length, refl, sym, ap, subst, ◌∙◌, arith, append_assoc, append-nil, nat_lt, ⊤, option_map_or, eqb-true, eqb-false, Call, Step, Load, Store, Layout, IsLayout, slot_word, next_word, indices_word, advance_join, join_step, JoinStage, Claiming, Storing, Joined, Spent, begins_at, with_index, Change, Stage, CoreState, at_stage, getting, scanning, with_getting, with_scanning, begin_joining, after_joining, record_size, expects, fits_pool, pool_refused, begin_getting, advance_at, advance, step_at, step_of, call_at, update_call, IsSound, is_sound_at, IsPossible, IsPossibleAt, Run, Reply}, Sound.{Keeps, kept, record_cases, record_step_cases}, StepCounts.stays_sound}
use Rattle.partial_words.specs.VacatedList.{intervals_word}
use Rattle.partial_active.specs.declared.get_set.Stage.{Stage as SetStage}
use Rattle.partial_active.specs.declared.get_set.Stage.TheVariants as set
use Rattle.partial_active.specs.GetSet as finding
use Rattle.partial_active.specs.GetSetAnswers as finding_answers
use Rattle.partial_embedded.specs.declared.embedded.Stage.{Stage as ViewStage}
use Rattle.partial_embedded.specs.declared.embedded.Stage.TheVariants as view
use Rattle.partial_embedded.specs.Embedded as viewing
use Rattle.partial_embedded.specs.Runs as runs
use Rattle.partial_embedded.proofs.{RunLaws.{loads_its_positions_alone, makes_few_collects}, Ends.finished_scans_end_well}
use Rattle.partial_machine.specs.declared.stage.Stage.TheVariants.{Idle, ReadBegun, LoadingValue, UpdateBegun, GettingSet, Viewing, ClaimingRecord, StoringRecord, Exchanging, ScanBegun, StoringAnnouncement, Joining, Scanning, Leaving, Finished}
use Rattle.partial_machine.specs.Components.{EndsInScan, HasScanned, scans_at, CallsLoadTheirComponents, CallsMakeEmbeddedScans, EmbeddedScansEndWell, MayLoad}

-- an embedded scan with no step due is done
none_due : (indices last : List ℕ) (p : viewing.ViewPair) (t : ViewStage) → viewing.view_step_at p.0.sizes indices last t ≡ None → t ≡ view.Done
none_due indices last p view.Done e = refl
none_due indices last p (view.Collect k) e = cc
none_due indices last p (view.View stamp) e = cc
none_due indices last p (view.Len at) e = cc
none_due indices last p (view.Index at left) e = cc
none_due indices last p (view.PairValue at left index) e = cc
none_due indices last p (view.Value k) e = cc

-- one answer more of a run of an embedded scan
run_on : (indices : List ℕ) (p q : viewing.ViewPair) (xs : List ℕ) (x : ℕ) → runs.ViewRun indices p xs q → viewing.IsPossibleInView q x →
    runs.ViewRun indices p (xs ++ x ∷ []) (viewing.advance_view indices q x)
run_on indices p q [] x is possible = (subst (λ (v : viewing.ViewPair). viewing.IsPossibleInView v x) is possible, ap (λ (v : viewing.ViewPair). viewing.advance_view indices v x) is)
run_on indices p q (y ∷ ys) x run possible = (run.0, run_on indices (viewing.advance_view indices p y) q ys x run.1 possible)

scan_begins : (z : Layout) (shares : Bool) (positions answers : List ℕ) (rows : viewing.RowsState) → viewing.ArePositions z positions → viewing.AreRowsFor z rows →
    EndsInScan z shares positions answers (viewing.fresh_view z shares, rows)
scan_begins z shares positions answers rows here for =
    record { front = answers; own = []; is = sym (append-nil answers); rows = rows; runs = (here, for, refl) }

scan_goes_on : (z : Layout) (shares : Bool) (positions answers : List ℕ) (p : viewing.ViewPair) (x : ℕ) → EndsInScan z shares positions answers p → viewing.IsPossibleInView p x →
    EndsInScan z shares positions (answers ++ x ∷ []) (viewing.advance_view positions p x)
scan_goes_on z shares positions answers p x w possible = record {
  front = w.front;
  own = w.own ++ x ∷ [];
  is = ap (λ l. l ++ x ∷ []) w.is ∙ append_assoc w.front w.own (x ∷ []);
  rows = w.rows;
  runs = (w.runs.0, w.runs.1, run_on positions (viewing.fresh_view z shares, w.rows) p w.own x w.runs.2 possible);
}

-- where a getSet loads a word of a block, that word lies after those of the components
abbrev is_behind : Layout → SetStage → Type 0
is_behind z (set.ListLen at) = z.m ≤ at
is_behind z (set.ListLow at left) = z.m ≤ at
is_behind z (set.ListHigh at left lo) = z.m ≤ at
is_behind z (set.Len slot at) = z.m ≤ at
is_behind z (set.Index slot at left) = z.m ≤ at
is_behind z _ = ⊤

walk_behind : (z : Layout) (b : Bool) (words : ℕ) → is_behind z (if b then set.Claim words else set.Done)
walk_behind z true words = tt
walk_behind z false words = tt

slot_behind : (z : Layout) (p : finding.SetPair) (slot : ℕ) (b : Bool) → is_behind z (if b then (record p.0 { stage = set.Slot slot }, p.1) else finding.after_walk p).0.stage
slot_behind z p slot true = tt
slot_behind z p slot false = walk_behind z (p.0.noted && not p.0.lists_spent) (finding.next_words p.1)

come_behind : (z : Layout) (p : finding.SetPair) (slot next : ℕ) (b : Bool) → is_behind z (if b then finding.at_slot (finding.pass_interval p) next else finding.at_slot p slot).0.stage
come_behind z p slot next true = slot_behind z (finding.pass_interval p) next (nat_lt next (finding.pass_interval p).0.end)
come_behind z p slot next false = slot_behind z p slot (nat_lt slot p.0.end)

comes_behind : (z : Layout) (p : finding.SetPair) (slot : ℕ) → is_behind z (finding.come_to p slot).0.stage
comes_behind z p slot = come_behind z p slot _ (begins_at p.1.read p.0.passed slot)

module _ (z : Layout) (p : finding.SetPair) (x : ℕ) (same : p.0.sizes ≡ z) where
  head_behind : finding_answers.IsListHead p.0.sizes x → (b : Bool) → (x == 0) ≡ b → is_behind z (if b then set.Counter else set.ListLen x)
  head_behind possible true e = tt
  head_behind (inl none) false e = absurd (eqb-false x 0 e none)
  head_behind (inr here) false e = let at = subst (λ (y : Layout). finding_answers.IsListHead y x) same (inr here) in by at
    where
      by : finding_answers.IsListHead z x → z.m ≤ x
      by (inl none) = absurd (eqb-false x 0 e none)
      by (inr there) = let above = there.0 in omega (arith, above)

  list_behind : (at : ℕ) → z.m ≤ at → (b : Bool) → is_behind z (if b then set.Counter else set.ListLow (intervals_word at) x)
  list_behind at behind true = tt
  list_behind at behind false = omega (arith, behind)

  interval_behind : (at left : ℕ) → z.m ≤ at → (b : Bool) → is_behind z (if b then set.Counter else set.ListLow (next_word at) left)
  interval_behind at left behind true = tt
  interval_behind at left behind false = omega (arith, behind)

  announced_behind : (slot : ℕ) → finding_answers.IsSlotWord p.0.sizes x → (b c : Bool) → (x == 0) ≡ b → (x == 1) ≡ c →
      is_behind z (if b then finding.come_to p (slot + 1) else (if c then finding.come_to (finding.note_slot p slot) (slot + 1) else finding.in_stage p (set.Len slot x))).0.stage
  announced_behind slot possible true c e f = comes_behind z p (slot + 1)
  announced_behind slot possible false true e f = comes_behind z (finding.note_slot p slot) (slot + 1)
  announced_behind slot possible false false e f = by (subst (λ (y : Layout). finding_answers.IsSlotWord y x) same possible)
    where
      by : finding_answers.IsSlotWord z x → z.m ≤ x
      by (inl none) = absurd (eqb-false x 0 e none)
      by (inr (inl vacated)) = absurd (eqb-false x 1 f vacated)
      by (inr (inr there)) = let above = there.0 in omega (arith, above)

  len_behind : (slot at : ℕ) → z.m ≤ at → (b : Bool) → is_behind z (if b then finding.come_to p (slot + 1) else finding.in_stage p (set.Index slot (indices_word at) x)).0.stage
  len_behind slot at behind true = comes_behind z p (slot + 1)
  len_behind slot at behind false = omega (arith, behind)

  index_behind : (q : finding.SetPair) (slot at left : ℕ) → z.m ≤ at → (b : Bool) →
      is_behind z (if b then finding.come_to q (slot + 1) else finding.in_stage q (set.Index slot (next_word at) left)).0.stage
  index_behind q slot at left behind true = comes_behind z q (slot + 1)
  index_behind q slot at left behind false = omega (arith, behind)

  claim_behind : (words : ℕ) (b : Bool) → is_behind z (if b then (record p.0 { lists_spent = true; stage = set.Done }, p.1) else finding.in_stage p (set.Write x 0 words (length p.1.next))).0.stage
  claim_behind words true = tt
  claim_behind words false = tt

  write_behind : (at k words word : ℕ) (b : Bool) → is_behind z (if b then set.Publish at else set.Write at k words word)
  write_behind at k words word true = tt
  write_behind at k words word false = tt

  -- over an answer
  set_behind : (t : SetStage) → p.0.stage ≡ t → finding_answers.is_possible_at t p x → is_behind z t → is_behind z (finding.advance_set_at t p x).0.stage
  set_behind set.Head e possible w = head_behind possible (x == 0) refl
  set_behind (set.ListLen at) e possible w = list_behind at w (x == 0)
  set_behind (set.ListLow at left) e possible w = omega (arith, w)
  set_behind (set.ListHigh at left lo) e possible w = interval_behind at (left - 1) w (left == 1)
  set_behind set.Counter e possible w = comes_behind z (record p.0 { end = min x p.0.sizes.slots; passed = 0 }, p.1) 0
  set_behind (set.Slot slot) e possible w = announced_behind slot possible (x == 0) (x == 1) refl refl
  set_behind (set.Len slot at) e possible w = len_behind slot at w (x == 0)
  set_behind (set.Index slot at left) e possible w = index_behind (p.0, record p.1 { indices = with_index p.1.indices x }) slot at (left - 1) w (left == 1)
  set_behind (set.Claim words) e possible w = claim_behind words (nat_lt _ (x + words))
  set_behind (set.Write at k words word) e possible w = write_behind at (k + 1) words _ (k + 1 == words)
  set_behind (set.Publish at) e possible w = tt
  set_behind set.Done e possible w = subst (is_behind z) (sym e) tt

-- what is known at a stage of the answers so far
abbrev scanned_at : List ℕ → CoreState → Stage → Type 0
scanned_at answers t (GettingSet c old) = is_behind t.sizes t.get_set.stage
scanned_at answers t u = scans_at answers t u

module _ (s : CoreState) (layout : IsLayout s.sizes) (w : IsSound s) (answers : List ℕ) (x : ℕ) where
  here : (t : Stage) → s.stage ≡ t → is_sound_at s t
  here t e = subst (is_sound_at s) e w.stage

  -- what is known after the answer
  abbrev Then : CoreState → Type 0
  Then q = scanned_at (answers ++ x ∷ []) q q.stage

  scanned : s.stage ≡ Scanning → viewing.IsPossibleInView (scanning s) x → EndsInScan s.sizes false s.asked answers (scanning s) → Then (advance_at s Scanning x)
  scanned e possible h = either (viewing.view_step_due s.asked q) refl
    where
      q : viewing.ViewPair
      q = viewing.advance_view s.asked (scanning s) x

      on : CoreState
      on = with_scanning s q

      more : EndsInScan s.sizes false s.asked (answers ++ x ∷ []) q
      more = scan_goes_on s.sizes false s.asked answers (scanning s) x h possible

      either : (o : Option Step) → viewing.view_step_due s.asked q ≡ o → let r = option_map_or (λ _. on) o (at_stage on Leaving) in scanned_at (answers ++ x ∷ []) r r.stage
      either (Some step) due = subst (scanned_at (answers ++ x ∷ []) on) (sym e) more
      either None none = (more, none_due s.asked q.1.last q q.0.stage none)

  viewed : (c : Change) (old : ℕ) → s.stage ≡ Viewing c old → viewing.IsPossibleInView (scanning s) x → EndsInScan s.sizes true s.found.indices answers (scanning s) →
      Then (advance_at s (Viewing c old) x)
  viewed c old e possible h = either (viewing.view_step_due s.found.indices q) refl
    where
      q : viewing.ViewPair
      q = viewing.advance_view s.found.indices (scanning s) x

      on : CoreState
      on = with_scanning s q

      more : EndsInScan s.sizes true s.found.indices (answers ++ x ∷ []) q
      more = scan_goes_on s.sizes true s.found.indices answers (scanning s) x h possible

      either : (o : Option Step) → viewing.view_step_due s.found.indices q ≡ o → let r = option_map_or (λ _. on) o (at_stage on (ClaimingRecord c old)) in scanned_at (answers ++ x ∷ []) r r.stage
      either (Some step) due = subst (scanned_at (answers ++ x ∷ []) on) (sym e) more
      either None none = λ some. (more, none_due s.found.indices q.1.last q q.0.stage none)

  -- a scan that has joined begins its embedded scan; the machine after the answer is sound
  joined : s.stage ≡ Joining → IsSound (advance_at s Joining x) → Then (advance_at s Joining x)
  joined e sound = by (advance_join s.join x).stage sound
    where
      q : CoreState
      q = record s { join = advance_join s.join x }

      by : (j : JoinStage) → IsSound (after_joining q j) → scanned_at (answers ++ x ∷ []) (after_joining q j) (after_joining q j).stage
      by Claiming sound = subst (scanned_at (answers ++ x ∷ []) q) (sym e) tt
      by (Storing slot) sound = subst (scanned_at (answers ++ x ∷ []) q) (sym e) tt
      by (Joined slot) sound = scan_begins s.sizes false s.asked (answers ++ x ∷ []) s.rows sound.stage.0.positions sound.rows
      by Spent sound = tt

  -- a getSet goes on, or what it found is scanned
  got : (c : Change) (old : ℕ) → s.stage ≡ GettingSet c old → finding_answers.IsPossibleInSet (getting s) x → is_behind s.sizes s.get_set.stage → IsSound (advance_at s (GettingSet c old) x) →
      Then (advance_at s (GettingSet c old) x)
  got c old e possible behind sound = either (finding.set_step_due p.0) sound
    where
      p : finding.SetPair
      p = finding.advance_set (getting s) x

      on : CoreState
      on = with_getting s p

      more : is_behind s.sizes p.0.stage
      more = set_behind s.sizes (getting s) x (here (GettingSet c old) e).2 s.get_set.stage refl possible behind

      over : (b : Bool) → (length p.1.indices == 0) ≡ b → let r : CoreState = record on { embedded = viewing.fresh_view s.sizes true; stage = (if b then ClaimingRecord c old else Viewing c old) } in
          IsSound r → scanned_at (answers ++ x ∷ []) r r.stage
      over true none sound = let empty = eqb-true (length p.1.indices) 0 none in λ some. absurd (omega (arith, empty, some))
      over false some sound = scan_begins s.sizes true p.1.indices (answers ++ x ∷ []) s.rows sound.stage.1.positions sound.rows

      either : (o : Option Step) → let r = option_map_or (λ _. on) o
          (record on { embedded = viewing.fresh_view s.sizes true; stage = (if length p.1.indices == 0 then ClaimingRecord c old else Viewing c old) }) in IsSound r →
          scanned_at (answers ++ x ∷ []) r r.stage
      either (Some step) sound = subst (scanned_at (answers ++ x ∷ []) on) (sym e) more
      either None sound = over (length p.1.indices == 0) refl sound

  announced : (b : Bool) → Then (if b then at_stage s (StoringAnnouncement x 0) else pool_refused s)
  announced true = tt
  announced false = tt

  stored : (b : Bool) (c : Change) (old at k : ℕ) → Then (at_stage s (if b then Exchanging c old at else StoringRecord c old at k))
  stored true c old at k = tt
  stored false c old at k = tt

  written : (b : Bool) (at k : ℕ) → Then (if b then begin_joining s at else at_stage s (StoringAnnouncement at k))
  written true at k = tt
  written false at k = tt

  expected : (b : Bool) (c : Change) → Then (if b then begin_getting s c x else at_stage s (Finished (Reply.Changed x)))
  expected true c = tt
  expected false c = tt

  scans_on : (t : Stage) → s.stage ≡ t → IsPossibleAt s t x → scanned_at answers s t → IsSound (advance_at s t x) → Then (advance_at s t x)
  scans_on Idle e possible h sound = absurd possible
  scans_on (ReadBegun j) e possible h sound = tt
  scans_on (LoadingValue stamp) e possible h sound = tt
  scans_on (UpdateBegun c) e possible h sound = expected (expects c x) c
  scans_on (GettingSet c old) e possible h sound = got c old e possible h sound
  scans_on (Viewing c old) e possible h sound = viewed c old e possible h
  scans_on (ClaimingRecord c old) e possible h sound = record_cases s c old x Then (λ _. tt) (λ _ _. tt) (λ _ _. tt)
  scans_on (StoringRecord c old at k) e possible h sound = stored (k + 1 == record_size s) c old at (k + 1)
  scans_on (Exchanging c old at) e possible h sound = tt
  scans_on ScanBegun e possible h sound = announced (fits_pool s.sizes _ x)
  scans_on (StoringAnnouncement at k) e possible h sound = written (k == length s.asked) at (k + 1)
  scans_on Joining e possible h sound = joined e sound
  scans_on Scanning e possible h sound = scanned e possible h
  scans_on Leaving e possible h sound = tt
  scans_on (Finished r) e possible h sound = absurd possible

-- over a run
runs_on : (s t : CoreState) (answers xs : List ℕ) → IsLayout s.sizes → IsSound s → scanned_at answers s s.stage → Run s xs t → scanned_at (answers ++ xs) t t.stage
runs_on s t answers [] layout w h is =
    subst (λ (l : List ℕ). scanned_at l t t.stage) (sym (append-nil answers)) (subst (λ (v : CoreState). scanned_at answers v v.stage) (sym is) h)
runs_on s t answers (x ∷ xs) layout w h run =
    let k : Keeps s (advance s x) = kept s x layout w run.0 in
    let one = scans_on s layout w answers x s.stage refl run.0 h k.sound in
    subst (λ (l : List ℕ). scanned_at l t t.stage) (append_assoc answers (x ∷ []) xs)
    (runs_on (advance s x) t (answers ++ x ∷ []) xs (subst IsLayout (sym k.sizes) layout) k.sound one run.1)

-- a call that is begun has made no embedded scan
begun_scans : (s : CoreState) (u : Stage) (c : Call) → call_at s u ≡ Some c → scanned_at [] s u
begun_scans s (ReadBegun j) c e = tt
begun_scans s (UpdateBegun d) c e = tt
begun_scans s ScanBegun c e = tt
begun_scans s _ c e = absurd cc

-- what is known of the answers where a getSet is made isn't of an embedded scan
scans_alone : (answers : List ℕ) (t : CoreState) (u : Stage) → scanned_at answers t u → scans_at answers t u
scans_alone answers t (GettingSet c old) w = tt
scans_alone answers t _ w = w

pub calls_make_embedded_scans : CallsMakeEmbeddedScans
calls_make_embedded_scans s t c xs layout w made run = scans_alone xs t t.stage (runs_on s t [] xs layout w (begun_scans s s.stage c made) run)

has_scanned : (z : Layout) (shares : Bool) (positions answers : List ℕ) (p : viewing.ViewPair) → EndsInScan z shares positions answers p → p.0.stage ≡ view.Done → HasScanned positions answers p
has_scanned z shares positions answers p w done = record {
  front = w.front;
  own = w.own;
  is = w.is;
  few = (makes_few_collects z shares positions w.rows w.own p w.runs).0;
  ends = finished_scans_end_well z shares positions w.rows w.own p w.runs done;
}

pub embedded_scans_end_well : EmbeddedScansEndWell
embedded_scans_end_well = record {
  scan = λ s t c xs layout w made run e.
      let at = subst (scans_at xs t) e (calls_make_embedded_scans s t c xs layout w made run) in
      has_scanned t.sizes false t.asked xs (scanning t) at.0 at.1;
  update = λ s t c xs layout w made run change old e some.
      let at = subst (scans_at xs t) e (calls_make_embedded_scans s t c xs layout w made run) some in
      has_scanned t.sizes true t.found.indices xs (scanning t) at.0 at.1;
}

-- the stages of a read of that component, of an update of it, and of a scan
abbrev of_read : ℕ → Stage → Type 0
of_read j (ReadBegun i) = i ≡ j
of_read j (LoadingValue stamp) = ⊤
of_read j (Finished r) = ⊤
of_read j _ = ⊥

abbrev of_update : ℕ → Stage → Type 0
of_update j (UpdateBegun c) = c.component ≡ j
of_update j (GettingSet c old) = ⊤
of_update j (Viewing c old) = ⊤
of_update j (ClaimingRecord c old) = ⊤
of_update j (StoringRecord c old at k) = ⊤
of_update j (Exchanging c old at) = ⊤
of_update j (Finished r) = ⊤
of_update j _ = ⊥

abbrev of_scan : Stage → Type 0
of_scan ScanBegun = ⊤
of_scan (StoringAnnouncement at k) = ⊤
of_scan Joining = ⊤
of_scan Scanning = ⊤
of_scan Leaving = ⊤
of_scan (Finished r) = ⊤
of_scan _ = ⊥

-- the machine with these positions is at a stage of the call
abbrev is_of : Call → List ℕ → Stage → Type 0
is_of (Call.Read j) asked u = of_read j u
is_of (Call.Update j v) asked u = of_update j u
is_of (Call.UpdateIf j x v) asked u = of_update j u
is_of (Call.Scan js) asked u = (asked ≡ js) × of_scan u

module _ (s : CoreState) (x : ℕ) where
  read_on : (j : ℕ) (u : Stage) → IsPossibleAt s u x → of_read j u → of_read j (advance_at s u x).stage
  read_on j (ReadBegun i) possible h = tt
  read_on j (LoadingValue stamp) possible h = tt
  read_on j (Finished r) possible h = absurd possible
  read_on j _ possible h = absurd h

  found_on : (j : ℕ) (c : Change) (old : ℕ) (b : Bool) → of_update j (if b then ClaimingRecord c old else Viewing c old)
  found_on j c old true = tt
  found_on j c old false = tt

  set_on : (j : ℕ) (c : Change) (old : ℕ) (q r : CoreState) (o : Option Step) → of_update j q.stage → of_update j r.stage → of_update j (option_map_or (λ _. q) o r).stage
  set_on j c old q r (Some step) h g = h
  set_on j c old q r None h g = g

  stored_on : (j : ℕ) (c : Change) (old at k : ℕ) (b : Bool) → of_update j (if b then Exchanging c old at else StoringRecord c old at k)
  stored_on j c old at k true = tt
  stored_on j c old at k false = tt

  choice_on : (j : ℕ) (b : Bool) (q r : CoreState) → of_update j q.stage → of_update j r.stage → of_update j (if b then q else r).stage
  choice_on j true q r h g = h
  choice_on j false q r h g = g

  update_on : (j : ℕ) (u : Stage) → s.stage ≡ u → IsPossibleAt s u x → of_update j u → of_update j (advance_at s u x).stage
  update_on j (UpdateBegun c) e possible h = choice_on j (expects c x) (begin_getting s c x) (at_stage s (Finished (Reply.Changed x))) tt tt
  update_on j (GettingSet c old) e possible h =
      let p = finding.advance_set (getting s) x in
      set_on j c old (with_getting s p) (record (with_getting s p) { embedded = viewing.fresh_view s.sizes true; stage = (if length p.1.indices == 0 then ClaimingRecord c old else Viewing c old) })
      (finding.set_step_due p.0) (subst (of_update j) (sym e) tt) (found_on j c old (length p.1.indices == 0))
  update_on j (Viewing c old) e possible h =
      let q = viewing.advance_view s.found.indices (scanning s) x in
      set_on j c old (with_scanning s q) (at_stage (with_scanning s q) (ClaimingRecord c old)) (viewing.view_step_due s.found.indices q) (subst (of_update j) (sym e) tt) tt
  update_on j (ClaimingRecord c old) e possible h = record_cases s c old x (λ (q : CoreState). of_update j q.stage) (λ _. tt) (λ _ _. tt) (λ _ _. tt)
  update_on j (StoringRecord c old at k) e possible h = stored_on j c old at (k + 1) (k + 1 == record_size s)
  update_on j (Exchanging c old at) e possible h = tt
  update_on j (Finished r) e possible h = absurd possible
  update_on j _ e possible h = absurd h

  pick_on : (b : Bool) (q r : CoreState) → of_scan q.stage → of_scan r.stage → of_scan (if b then q else r).stage
  pick_on true q r h g = h
  pick_on false q r h g = g

  join_on : (q : CoreState) (j : JoinStage) → of_scan q.stage → of_scan (after_joining q j).stage
  join_on q Claiming h = h
  join_on q (Storing slot) h = h
  join_on q (Joined slot) h = tt
  join_on q Spent h = tt

  view_on : (q r : CoreState) (o : Option Step) → of_scan q.stage → of_scan r.stage → of_scan (option_map_or (λ _. q) o r).stage
  view_on q r (Some step) h g = h
  view_on q r None h g = g

  scan_on : (u : Stage) → s.stage ≡ u → IsPossibleAt s u x → of_scan u → of_scan (advance_at s u x).stage
  scan_on ScanBegun e possible h = pick_on (fits_pool s.sizes _ x) (at_stage s (StoringAnnouncement x 0)) (pool_refused s) tt tt
  scan_on (StoringAnnouncement at k) e possible h = pick_on (k == length s.asked) (begin_joining s at) (at_stage s (StoringAnnouncement at (k + 1))) tt tt
  scan_on Joining e possible h = join_on (record s { join = advance_join s.join x }) (advance_join s.join x).stage (subst of_scan (sym e) tt)
  scan_on Scanning e possible h =
      let q = viewing.advance_view s.asked (scanning s) x in
      view_on (with_scanning s q) (at_stage (with_scanning s q) Leaving) (viewing.view_step_due s.asked q) (subst of_scan (sym e) tt) tt
  scan_on Leaving e possible h = tt
  scan_on (Finished r) e possible h = absurd possible
  scan_on _ e possible h = absurd h

  call_on : (c : Call) → IsPossible s x → (advance s x).asked ≡ s.asked → is_of c s.asked s.stage → is_of c (advance s x).asked (advance s x).stage
  call_on (Call.Read j) possible asked h = read_on j s.stage possible h
  call_on (Call.Update j v) possible asked h = update_on j s.stage refl possible h
  call_on (Call.UpdateIf j e v) possible asked h = update_on j s.stage refl possible h
  call_on (Call.Scan js) possible asked h = (asked ∙ h.0, scan_on s.stage refl possible h.1)

call_runs : (s t : CoreState) (c : Call) (xs : List ℕ) → IsLayout s.sizes → IsSound s → is_of c s.asked s.stage → Run s xs t → is_of c t.asked t.stage
call_runs s t c [] layout w h is = subst (λ (v : CoreState). is_of c v.asked v.stage) (sym is) h
call_runs s t c (x ∷ xs) layout w h run =
    let k : Keeps s (advance s x) = kept s x layout w run.0 in
    call_runs (advance s x) t c xs (subst IsLayout (sym k.sizes) layout) k.sound (call_on s x c run.0 k.positions h) run.1

begun_of_call : (s : CoreState) (u : Stage) (c : Call) → call_at s u ≡ Some c → is_of c s.asked u
begun_of_call s (ReadBegun j) c e = let same : Call.Read j ≡ c = cc in subst (λ (d : Call). is_of d s.asked (ReadBegun j)) same refl
begun_of_call s (UpdateBegun d) c e = let same : update_call d.component d.expected d.value ≡ c = cc in subst (λ (f : Call). is_of f s.asked (UpdateBegun d)) same (either d.expected)
  where
    either : (f : Option ℕ) → is_of (update_call d.component f d.value) s.asked (UpdateBegun d)
    either None = refl
    either (Some v) = refl
begun_of_call s ScanBegun c e = let same : Call.Scan s.asked ≡ c = cc in subst (λ (d : Call). is_of d s.asked ScanBegun) same (refl, tt)
begun_of_call s _ c e = absurd cc

-- a load of a word after those of the components
abbrev IsAfterAnswer : Layout → Option Step → Type 0
IsAfterAnswer z (Some (Load v)) = z.m ≤ v
IsAfterAnswer z _ = ⊤

behind_load : {P : Type 0} (z : Layout) (f : Option Step) (v : ℕ) → IsAfterAnswer z f → f ≡ Some (Load v) → v < z.m → P
behind_load z f v w is below = let above : z.m ≤ v = subst (IsAfterAnswer z) is w in absurd (omega (arith, above, below))

set_loads : (z : Layout) (head : ℕ) (u : SetStage) → is_behind z u → IsAfterAnswer z (finding.set_step_at z head u)
set_loads z head set.Head w = omega arith
set_loads z head (set.ListLen at) w = w
set_loads z head (set.ListLow at left) w = w
set_loads z head (set.ListHigh at left lo) w = w
set_loads z head set.Counter w = omega arith
set_loads z head (set.Slot slot) w = omega arith
set_loads z head (set.Len slot at) w = w
set_loads z head (set.Index slot at left) w = w
set_loads z head (set.Claim words) w = tt
set_loads z head (set.Write at k words word) w = tt
set_loads z head (set.Publish at) w = tt
set_loads z head set.Done w = tt

join_loads : (z y : Layout) (announcement : ℕ) (u : JoinStage) → IsAfterAnswer z (join_step y announcement u)
join_loads z y announcement Claiming = tt
join_loads z y announcement (Storing slot) = tt
join_loads z y announcement (Joined slot) = tt
join_loads z y announcement Spent = tt

leave_loads : (z y : Layout) (slot : ℕ) (b : Bool) → IsAfterAnswer z (if b then None else Some (Store (slot_word y slot) 1))
leave_loads z y slot true = tt
leave_loads z y slot false = tt

module _ (t : CoreState) (w : IsSound t) (xs : List ℕ) (v : ℕ) (below : v < t.sizes.m) where
  there : (u : Stage) → t.stage ≡ u → is_sound_at t u
  there u e = subst (is_sound_at t) e w.stage

  positioned : (shares : Bool) (positions : List ℕ) → EndsInScan t.sizes shares positions xs (scanning t) → viewing.view_step_due positions (scanning t) ≡ Some (Load v) → runs.IsOfPosition positions v
  positioned shares positions h is =
      let l = loads_its_positions_alone t.sizes shares positions h.rows h.own (scanning t) (Load v) h.runs is in
      let same : l.0 ≡ v = cc in
      subst (runs.IsOfPosition positions) same (l.2 (omega (arith, below, same)))

  read_loads : (j : ℕ) (u : Stage) → t.stage ≡ u → of_read j u → step_at t u ≡ Some (Load v) → v ≡ j
  read_loads j (ReadBegun i) e h is = let same : i ≡ v = cc in sym same ∙ h
  read_loads j (LoadingValue stamp) e h is =
      let r = (there (LoadingValue stamp) e).0 in
      behind_load t.sizes (step_at t (LoadingValue stamp)) v (omega (arith, r)) is below
  read_loads j (Finished r) e h is = cc
  read_loads j _ e h is = absurd h

  update_loads : (j : ℕ) (u : Stage) → t.stage ≡ u → of_update j u → scanned_at xs t u → step_at t u ≡ Some (Load v) → (v ≡ j) ⊎ runs.IsOfPosition t.found.indices v
  update_loads j (UpdateBegun c) e h k is = let same : c.component ≡ v = cc in inl (sym same ∙ h)
  update_loads j (GettingSet c old) e h k is =
      let sizes = (there (GettingSet c old) e).2 in
      let behind : IsAfterAnswer t.sizes (finding.set_step_at t.get_set.sizes t.get_set.head t.get_set.stage) =
      subst (λ (y : Layout). IsAfterAnswer t.sizes (finding.set_step_at y t.get_set.head t.get_set.stage)) (sym sizes) (set_loads t.sizes t.get_set.head t.get_set.stage k) in
      behind_load t.sizes (step_at t (GettingSet c old)) v behind is below
  update_loads j (Viewing c old) e h k is = inr (positioned true t.found.indices k is)
  update_loads j (ClaimingRecord c old) e h k is = record_step_cases t old (λ (u : Step). Some u ≡ Some (Load v) → (v ≡ j) ⊎ runs.IsOfPosition t.found.indices v) (λ _ bad. cc) (λ _ bad. cc) is
  update_loads j (StoringRecord c old at n) e h k is = cc
  update_loads j (Exchanging c old at) e h k is = cc
  update_loads j (Finished r) e h k is = cc
  update_loads j _ e h k is = absurd h

  scan_loads : (u : Stage) → t.stage ≡ u → of_scan u → scanned_at xs t u → step_at t u ≡ Some (Load v) → runs.IsOfPosition t.asked v
  scan_loads ScanBegun e h k is = cc
  scan_loads (StoringAnnouncement at n) e h k is = cc
  scan_loads Joining e h k is = behind_load t.sizes (step_at t Joining) v (join_loads t.sizes t.join.sizes t.join.announcement t.join.stage) is below
  scan_loads Scanning e h k is = positioned false t.asked k is
  scan_loads Leaving e h k is = behind_load t.sizes (step_at t Leaving) v (leave_loads t.sizes t.leave.sizes t.leave.slot t.leave.left) is below
  scan_loads (Finished r) e h k is = cc
  scan_loads _ e h k is = absurd h

  may_load : (c : Call) → is_of c t.asked t.stage → scanned_at xs t t.stage → step_of t ≡ Some (Load v) → MayLoad c t v
  may_load (Call.Read j) h k is = read_loads j t.stage refl h is
  may_load (Call.Update j x) h k is = update_loads j t.stage refl h k is
  may_load (Call.UpdateIf j x y) h k is = update_loads j t.stage refl h k is
  may_load (Call.Scan js) h k is = subst (λ (l : List ℕ). runs.IsOfPosition l v) h.0 (scan_loads t.stage refl h.1 k is)

pub calls_load_their_components : CallsLoadTheirComponents
calls_load_their_components s t c xs v layout w made run is below =
    let sound = (stays_sound s t xs layout w run).0 in
    let known = runs_on s t [] xs layout w (begun_scans s s.stage c made) run in
    may_load t sound xs v below c (call_runs s t c xs layout w (begun_of_call s s.stage c made) run) known is
