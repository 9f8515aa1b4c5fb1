-- What a machine in the middle of a call knows by the answers that it has kept, in lawful words.
use Rattle.partial_core.proofs.Common.{nat_lt, slice_index, option_map_or, false≢true, cond_both, eqb-true, Applied, Opening, stamp_of, Step, Load, Store, Exchange, Add, Layout, value_word, view_word, join_after, join_step, JoinStage, Claiming, Storing, Spent, Change, CoreState, at_stage, getting, scanning, with_getting, with_scanning, record_size, expects, begin_joining, after_getting, after_scanning, after_joining, advance_at, step_at, IsSound, is_sound_at, IsPossibleAt, Holding, LawfulWords, KeptAnswer, getsets_know, embedded_scans_know, is_storing, joins_at, IsTrueYet, record_cases}
use Rattle.std.proofs.Common.{ℕ, ◌≡◌, ◌+◌, ◌≤◌, ◌==◌, ◌⊎◌, ◌&&◌, ◌||◌, Bool, true, false, if◌then◌else◌, Option, Some, None, IsSome, List, length, take, inl, inr, refl, sym, subst, ◌∙◌, arith}
use Rattle.partial_active.specs.declared.join.JoinStage.TheVariants.{Joined as JoinedIn}
use Rattle.partial_active.specs.GetSet as finding
use Rattle.partial_active.specs.GetSetAnswers as finding_answers
use Rattle.partial_active.proofs.Knowledge.{finished}
use Rattle.partial_embedded.specs.Embedded as viewing
use Rattle.partial_embedded.proofs.Keeps as viewed
use Rattle.partial_embedded.specs.declared.embedded.Stage.{Stage as ViewStage}
use Rattle.partial_embedded.specs.declared.embedded.Stage.TheVariants.{Collect, View, Len, Index, PairValue, Value, Done}
use Rattle.partial_machine.specs.declared.stage.Stage.{Stage}
use Rattle.partial_machine.specs.declared.stage.Stage.TheVariants.{Idle, ReadBegun, LoadingValue, UpdateBegun, GettingSet, Viewing, ClaimingRecord, StoringRecord, Exchanging, ScanBegun, StoringAnnouncement, Joining, Scanning, Leaving, Finished}
use Rattle.partial_knowledge.specs.Sets as sets
use Rattle.partial_knowledge.specs.Scans as scans

-- the component's record as the update with this machine has loaded it first
pub record KnowsOld (o : Opening) (log : List Applied) (begun : CoreState) (first : ℕ) (c : Change) (old : ℕ) : Type 0 where
  pub called : begun.stage ≡ UpdateBegun c
  pub expected : expects c old ≡ true
  pub stamp : old ≡ stamp_of o (take first log) c.component

-- the scan that this machine has begun
pub record KnowsScan (begun s : CoreState) : Type 0 where
  pub called : begun.stage ≡ ScanBegun
  pub asked : s.asked ≡ begun.asked

-- an embedded scan is finished
abbrev pub is_finished : Layout → Opening → List ℕ → List Holding → List Applied → List ℕ → ℕ → viewing.ViewPair → Type 0
is_finished z o words hs log indices low p = scans.knows_at z o words hs log indices low (length log) Done p

-- the indices found name those of each port that had joined, and nothing is found or the embedded scan of them is finished
abbrev pub IsViewed : Layout → Opening → List ℕ → List Holding → List Applied → ℕ → CoreState → Type 0
IsViewed z o words hs log first s = sets.FindsJoined hs first s.found.indices ×
    (((length s.found.indices ≡ 0) × (s.embedded.borrowed ≡ None)) ⊎ is_finished z o words hs log s.found.indices first (scanning s))

module _ (z : Layout) (o : Opening) (words : List ℕ) (hs : List Holding) (log : List Applied) (begun : CoreState) (first : ℕ) where
  -- what is known at a stage after the first answer, where the port joined and the last answer was given at these lengths
  abbrev pub knows_at : ℕ → ℕ → CoreState → Stage → Type 0
  knows_at since high s Idle = ⊥
  knows_at since high s (ReadBegun j) = ⊥
  knows_at since high s (LoadingValue stamp) = (j : ℕ) × (begun.stage ≡ ReadBegun j) × (stamp ≡ stamp_of o (take first log) j)
  knows_at since high s (UpdateBegun c) = ⊥
  knows_at since high s (GettingSet c old) = KnowsOld o log begun first c old × sets.SetKnows z words hs first (getting s)
  knows_at since high s (Viewing c old) = KnowsOld o log begun first c old × sets.FindsJoined hs first s.found.indices × scans.ScanKnows z o words hs log s.found.indices first high (scanning s)
  knows_at since high s (ClaimingRecord c old) = KnowsOld o log begun first c old × IsViewed z o words hs log first s
  knows_at since high s (StoringRecord c old at k) = KnowsOld o log begun first c old × IsViewed z o words hs log first s
  knows_at since high s (Exchanging c old at) = KnowsOld o log begun first c old × IsViewed z o words hs log first s
  knows_at since high s ScanBegun = ⊥
  knows_at since high s (StoringAnnouncement at k) = KnowsScan begun s
  knows_at since high s Joining = KnowsScan begun s
  knows_at since high s Scanning = KnowsScan begun s × (first ≤ since) × (since ≤ high) × (s.embedded.shares ≡ false) × scans.ScanKnows z o words hs log s.asked since high (scanning s)
  knows_at since high s Leaving = KnowsScan begun s × (first ≤ since) × (since ≤ length log) × (s.embedded.shares ≡ false) × (s.embedded.collects ≤ length s.asked + 2) ×
      is_finished z o words hs log s.asked since (scanning s)
  knows_at since high s (Finished r) = Unit {0}

  abbrev pub Knows : ℕ → ℕ → CoreState → Type 0
  Knows since high s = knows_at since high s s.stage

-- an embedded scan without a due step is finished
pub view_finished : (z : Layout) (o : Opening) (words : List ℕ) (hs : List Holding) (log : List Applied) (indices : List ℕ) (low high : ℕ) (last : List ℕ) (y : Layout) (stage : ViewStage)
    (p : viewing.ViewPair) → high ≤ length log → viewing.view_step_at y indices last stage ≡ None → scans.knows_at z o words hs log indices low high stage p →
    is_finished z o words hs log indices low p
view_finished z o words hs log indices low high last y (Collect k) p inside e knows = absurd cc
view_finished z o words hs log indices low high last y (View stamp) p inside e knows = absurd cc
view_finished z o words hs log indices low high last y (Len at) p inside e knows = absurd cc
view_finished z o words hs log indices low high last y (Index at left) p inside e knows = absurd cc
view_finished z o words hs log indices low high last y (PairValue at left index) p inside e knows = absurd cc
view_finished z o words hs log indices low high last y (Value k) p inside e knows = absurd cc
view_finished z o words hs log indices low high last y Done p inside e knows =
    (λ none. let h = knows.0 none in (h.0, h.1, record { from = h.2.from; to = let to = h.2.to in omega (arith, to, inside); values = h.2.values }, h.3), knows.1, knows.2)

-- each step of an embedded scan is a load
pub view_loads : (y : Layout) (indices last : List ℕ) (stage : ViewStage) → IsSome (viewing.view_step_at y indices last stage) → (n : ℕ) × (viewing.view_step_at y indices last stage ≡ Some (Load n))
view_loads y indices last (Collect k) due = (slice_index indices k, refl)
view_loads y indices last (View stamp) due = (view_word stamp, refl)
view_loads y indices last (Len at) due = (at, refl)
view_loads y indices last (Index at left) due = (at, refl)
view_loads y indices last (PairValue at left index) due = (at, refl)
view_loads y indices last (Value k) due = (value_word (slice_index last k), refl)
view_loads y indices last Done due = absurd (false≢true due)

-- an embedded scan that has made no step knows nothing yet
scan_begins : (z y : Layout) (shares : Bool) (o : Opening) (words : List ℕ) (hs : List Holding) (log : List Applied) (indices : List ℕ) (low high : ℕ) (rows : viewing.RowsState) → low ≤ high →
    scans.ScanKnows z o words hs log indices low high (viewing.fresh_view y shares, rows)
scan_begins z y shares o words hs log indices low high rows order = record {
  none = refl;
  middle = high;
  from = order;
  to = omega arith;
  loaded = λ i lt. absurd (omega (arith, lt));
  same = λ first unmoved i lt. absurd (omega (arith, lt));
  calm_first = λ first i lt. absurd (omega (arith, lt));
  calm_second = λ second i from lt. absurd (omega (arith, second));
  before = λ first i from lt. absurd (false≢true (sym first));
}

-- whether a borrowed view is shared stays what it was
pub view_shares : (indices : List ℕ) (p : viewing.ViewPair) (stage : ViewStage) (x : ℕ) → (viewing.advance_view_at indices p stage x).0.shares ≡ p.0.shares
view_shares indices p (Collect k) x = cond_both (viewing.differs p k x && viewing.was_changed p k) (viewing.borrow p x) (viewing.go_on (length indices) (viewing.noted_load p k x) k)
    (λ (q : viewing.ViewPair). q.0.shares ≡ p.0.shares) (λ e. refl)
    (λ e. cond_both (nat_lt (k + 1) (length indices)) (viewing.view_at_stage (viewing.noted_load p k x) (Collect (k + 1))) (viewing.after_collect (viewing.noted_load p k x))
    (λ (q : viewing.ViewPair). q.0.shares ≡ p.0.shares) (λ f. refl)
    (λ f. cond_both (viewing.is_first p || (p.0.moved || viewing.differs p k x)) (
      record (viewing.noted_load p k x).0 { collects = p.0.collects + 1; moved = false; stage = Collect 0 },
      (viewing.noted_load p k x).1,
    ) (viewing.view_at_stage (viewing.noted_load p k x) (Value 0)) (λ (q : viewing.ViewPair). q.0.shares ≡ p.0.shares) (λ g. refl) (λ g. refl)))
view_shares indices p (View stamp) x = refl
view_shares indices p (Len at) x = refl
view_shares indices p (Index at left) x = refl
view_shares indices p (PairValue at left index) x = refl
view_shares indices p (Value k) x = refl
view_shares indices p Done x = refl

-- what a getSet knows leads on, of sizes that are known
pub set_leads : (z : Layout) (o : Opening) (words : List ℕ) (hs : List Holding) (log : List Applied) (low : ℕ) (p : finding.SetPair) → p.0.sizes ≡ z → LawfulWords z o words hs log →
    finding_answers.SetGoesTogether p → sets.SetKnows z words hs low p → sets.SetKnowsOn z o words hs log low p
set_leads z o words hs log low p e w together knows = subst (λ (y : Layout). LawfulWords y o words hs log → sets.SetKnows y words hs low p → sets.SetKnowsOn y o words hs log low p) e
    (λ v k. getsets_know o words hs log low p v together k) w knows

pub view_leads : (z : Layout) (o : Opening) (words : List ℕ) (hs : List Holding) (log : List Applied) (indices : List ℕ) (low high : ℕ) (p : viewing.ViewPair) → p.0.sizes ≡ z →
    LawfulWords z o words hs log → viewing.ViewGoesTogether indices p → low ≤ high → high ≤ length log → scans.ScanKnows z o words hs log indices low high p →
    scans.ScanKnowsOn z o words hs log indices low high p
view_leads z o words hs log indices low high p e w together order inside knows =
    subst (λ (y : Layout). LawfulWords y o words hs log → scans.ScanKnows y o words hs log indices low high p → scans.ScanKnowsOn y o words hs log indices low high p) e
    (λ v k. embedded_scans_know o words hs log indices low high p v together order inside k) w knows

-- what is kept of a getSet's answer
set_answer : (z : Layout) (o : Opening) (words : List ℕ) (hs : List Holding) (log : List Applied) (low : ℕ) (p : finding.SetPair) (f : Option Step) (k : KeptAnswer) → IsSome f →
    finding_answers.IsPossibleInSet p k.answer → low ≤ k.at → IsTrueYet z o words hs log f k → sets.IsKeptAnswer z o words hs log low p f k
set_answer z o words hs log low p None k due possible after yet = absurd (false≢true due)
set_answer z o words hs log low p (Some (Load n)) k due possible after yet = (possible, after, yet)
set_answer z o words hs log low p (Some (Store n v)) k due possible after yet = possible
set_answer z o words hs log low p (Some (Exchange n old new)) k due possible after yet = possible
set_answer z o words hs log low p (Some (Add n v)) k due possible after yet = possible

module _ (z : Layout) (o : Opening) (words : List ℕ) (hs : List Holding) (log : List Applied) (w : LawfulWords z o words hs log) (begun : CoreState) (first since high : ℕ) (order : first ≤ high)
    (s : CoreState) (sizes : s.sizes ≡ z) (sound : IsSound s) (k : KeptAnswer) (after : high ≤ k.at) (within : k.at ≤ length log) where
  -- what is known after the answer, where the port joined at that length
  abbrev pub Then : ℕ → CoreState → Type 0
  Then n t = Knows z o words hs log begun first n k.at t

  here : (t : Stage) → s.stage ≡ t → is_sound_at s t
  here t e = subst (is_sound_at s) e sound.stage

  set_on : (c : Change) (old : ℕ) → s.stage ≡ GettingSet c old → knows_at z o words hs log begun first since high s (GettingSet c old) → finding_answers.IsPossibleInSet (getting s) k.answer →
      IsTrueYet z o words hs log (finding.set_step_due s.get_set) k → sets.SetKnows z words hs first (finding.advance_set (getting s) k.answer)
  set_on c old e knows possible yet =
      let h = here (GettingSet c old) e in
      let leads = set_leads z o words hs log first (getting s) (h.2 ∙ sizes) w h.1 knows.1 in
      leads.on k (set_answer z o words hs log first (getting s) (finding.set_step_due s.get_set) k h.3 possible (omega (arith, order, after)) yet)

  -- the getSet goes on, or it is finished
  getting_then : (t : CoreState) (c : Change) (old : ℕ) → t.stage ≡ GettingSet c old → KnowsOld o log begun first c old → sets.SetKnows z words hs first (getting t) →
      Then since (after_getting t c old)
  getting_then t c old e knows known = by_step (finding.set_step_due t.get_set) refl
    where
      ended : Stage → CoreState
      ended u = record t { embedded = viewing.fresh_view t.sizes true; stage = u }

      Case : Option Step → Type 0
      Case f = Knows z o words hs log begun first since k.at (option_map_or (λ _. t) f
          (record t { embedded = viewing.fresh_view t.sizes true; stage = (if length t.found.indices == 0 then ClaimingRecord c old else Viewing c old) }))

      by_step : (f : Option Step) → finding.set_step_due t.get_set ≡ f → Case (finding.set_step_due t.get_set)
      by_step (Some step) is = subst Case (sym is) (subst (λ (u : Stage). knows_at z o words hs log begun first since k.at t u) (sym e) (knows, known))
      by_step None is =
          let found : sets.FindsJoined hs first t.found.indices = (finished (sets.facts_of_words z words hs first) t.get_set.sizes t.get_set.head t.get_set.stage (getting t) is known).1 in
          subst Case (sym is)
          (cond_both (length t.found.indices == 0) (ClaimingRecord c old) (Viewing c old)
          (λ (u : Stage). Knows z o words hs log begun first since k.at (record t { embedded = viewing.fresh_view t.sizes true; stage = u }))
          (λ none. (knows, (found, inl (eqb-true (length t.found.indices) 0 none, refl))))
          (λ some. (knows, found, scan_begins z t.sizes true o words hs log t.found.indices first k.at t.rows (omega (arith, order, after)))))

  getting_on : (c : Change) (old : ℕ) → s.stage ≡ GettingSet c old → knows_at z o words hs log begun first since high s (GettingSet c old) → finding_answers.IsPossibleInSet (getting s) k.answer →
      IsTrueYet z o words hs log (finding.set_step_due s.get_set) k → Then since (advance_at s (GettingSet c old) k.answer)
  getting_on c old e knows possible yet = getting_then (with_getting s (finding.advance_set (getting s) k.answer)) c old e knows.0 (set_on c old e knows possible yet)

  -- the embedded scan of the indices found goes on, or it is finished
  view_on : (indices : List ℕ) (low : ℕ) → s.embedded.sizes ≡ s.sizes → viewing.ViewGoesTogether indices (scanning s) → IsSome (viewing.view_step_due indices (scanning s)) → low ≤ high →
      scans.ScanKnows z o words hs log indices low high (scanning s) → IsTrueYet z o words hs log (viewing.view_step_due indices (scanning s)) k → scans.ScanKnows z o words hs log indices low k.at
      (viewing.advance_view indices (scanning s) k.answer)
  view_on indices low same together due from knows yet =
      let load = view_loads s.embedded.sizes indices s.rows.last s.embedded.stage due in
      let leads = view_leads z o words hs log indices low high (scanning s) (same ∙ sizes) w together from (omega (arith, after, within)) knows in
      leads.on load.0 k load.1 (subst (λ (f : Option Step). IsTrueYet z o words hs log f k) load.1 yet) after

  view_then : (t : CoreState) (c : Change) (old : ℕ) → t.stage ≡ Viewing c old → KnowsOld o log begun first c old → sets.FindsJoined hs first t.found.indices →
      scans.ScanKnows z o words hs log t.found.indices first k.at (scanning t) → Then since (after_scanning t t.found.indices (ClaimingRecord c old))
  view_then t c old e knows found known = by_step (viewing.view_step_due t.found.indices (scanning t)) refl
    where
      Case : Option Step → Type 0
      Case f = Knows z o words hs log begun first since k.at (option_map_or (λ _. t) f (at_stage t (ClaimingRecord c old)))

      by_step : (f : Option Step) → viewing.view_step_due t.found.indices (scanning t) ≡ f → Case (viewing.view_step_due t.found.indices (scanning t))
      by_step (Some step) is = subst Case (sym is) (subst (λ (u : Stage). knows_at z o words hs log begun first since k.at t u) (sym e) (knows, found, known))
      by_step None is = subst Case (sym is) (knows, (found, inr (view_finished z o words hs log t.found.indices first k.at t.rows.last t.embedded.sizes t.embedded.stage (scanning t) within is known)))

  viewing_on : (c : Change) (old : ℕ) → s.stage ≡ Viewing c old → knows_at z o words hs log begun first since high s (Viewing c old) →
      IsTrueYet z o words hs log (viewing.view_step_due s.found.indices (scanning s)) k → Then since (advance_at s (Viewing c old) k.answer)
  viewing_on c old e knows yet =
      let h = here (Viewing c old) e in
      view_then (with_scanning s (viewing.advance_view s.found.indices (scanning s) k.answer)) c old e knows.0 knows.1 (view_on s.found.indices first h.2 h.1 h.3 order knows.2 yet)

  scan_then : (t : CoreState) → t.stage ≡ Scanning → KnowsScan begun t → first ≤ since → since ≤ k.at → t.embedded.shares ≡ false → t.embedded.collects ≤ length t.asked + 2 →
      scans.ScanKnows z o words hs log t.asked since k.at (scanning t) → Then since (after_scanning t t.asked Leaving)
  scan_then t e knows from to shares few known = by_step (viewing.view_step_due t.asked (scanning t)) refl
    where
      Case : Option Step → Type 0
      Case f = Knows z o words hs log begun first since k.at (option_map_or (λ _. t) f (at_stage t Leaving))

      by_step : (f : Option Step) → viewing.view_step_due t.asked (scanning t) ≡ f → Case (viewing.view_step_due t.asked (scanning t))
      by_step (Some step) is = subst Case (sym is) (subst (λ (u : Stage). knows_at z o words hs log begun first since k.at t u) (sym e) (knows, from, to, shares, known))
      by_step None is = subst Case (sym is) (
        record { called = knows.called; asked = knows.asked },
        from,
        omega (arith, to, within),
        shares,
        few,
        view_finished z o words hs log t.asked since k.at t.rows.last t.embedded.sizes t.embedded.stage (scanning t) within is known,
      )

  scanning_on : s.stage ≡ Scanning → knows_at z o words hs log begun first since high s Scanning → viewing.IsPossibleInView (scanning s) k.answer →
      IsTrueYet z o words hs log (viewing.view_step_due s.asked (scanning s)) k → Then since (advance_at s Scanning k.answer)
  scanning_on e knows possible yet =
      let h = here Scanning e in
      let kept = viewed.kept s.asked (scanning s) k.answer h.0 possible in
      let to = knows.2 in
      scan_then (with_scanning s (viewing.advance_view s.asked (scanning s) k.answer)) e (record { called = knows.0.called; asked = knows.0.asked }) knows.1 (omega (arith, to, after))
      (view_shares s.asked (scanning s) s.embedded.stage k.answer ∙ knows.3) kept.together.collects (view_on s.asked since h.1 h.0 h.2 to knows.4 yet)

  -- a join that has stored its announcement begins the embedded scan
  join_then : (t : CoreState) (j : JoinStage) (n : ℕ) → t.stage ≡ Joining → KnowsScan begun t → first ≤ n → n ≤ k.at → Then n (after_joining t j)
  join_then t Claiming n e knows from to = subst (λ (u : Stage). knows_at z o words hs log begun first n k.at t u) (sym e) knows
  join_then t (Storing slot) n e knows from to = subst (λ (u : Stage). knows_at z o words hs log begun first n k.at t u) (sym e) knows
  join_then t (JoinedIn slot) n e knows from to = (record { called = knows.called; asked = knows.asked }, from, to, refl, scan_begins z t.sizes false o words hs log t.asked n k.at t.rows to)
  join_then t Spent n e knows from to = tt

  -- a claim of a join knows nothing of a length, and its store is made at the length of its answer
  joining_on : (j : JoinStage) → s.join.stage ≡ j → s.stage ≡ Joining → knows_at z o words hs log begun first since high s Joining → Then (if joins_at s Joining then k.at else since)
      (advance_at s Joining k.answer)
  joining_on j at e knows = subst Case (sym at) (by_stage j (subst (λ (i : JoinStage). IsSome (join_step s.join.sizes s.join.announcement i)) at (here Joining e).4))
    where
      joined : JoinStage → CoreState
      joined i = record s { join = record s.join { stage = i } }

      Case : JoinStage → Type 0
      Case i = Knows z o words hs log begun first (if is_storing i then k.at else since) k.at
          (after_joining (record s { join = record s.join { stage = join_after s.join.sizes i k.answer } }) (join_after s.join.sizes i k.answer))

      by_stage : (i : JoinStage) → IsSome (join_step s.join.sizes s.join.announcement i) → Case i
      by_stage Claiming due = cond_both (nat_lt k.answer s.join.sizes.slots) (Storing k.answer) Spent
          (λ (i : JoinStage). Knows z o words hs log begun first since k.at (after_joining (record s { join = record s.join { stage = i } }) i))
          (λ claimed. subst (λ (u : Stage). knows_at z o words hs log begun first since k.at (record s { join = record s.join { stage = Storing k.answer } }) u) (sym e)
          (record { called = knows.called; asked = knows.asked }))
          (λ refused. tt)
      by_stage (Storing slot) due = join_then (record s { join = record s.join { stage = JoinedIn slot } }) (JoinedIn slot) k.at e (record { called = knows.called; asked = knows.asked })
          (omega (arith, order, after)) (omega arith)
      by_stage (JoinedIn slot) due = absurd (false≢true due)
      by_stage Spent due = absurd (false≢true due)

  -- the first answer is an update's or a read's component, or a scan's claim
  pub on_at : (t : Stage) → s.stage ≡ t → knows_at z o words hs log begun first since high s t → IsPossibleAt s t k.answer → IsTrueYet z o words hs log (step_at s t) k →
      Then (if joins_at s t then k.at else since) (advance_at s t k.answer)
  on_at Idle e knows possible yet = absurd knows
  on_at (ReadBegun j) e knows possible yet = absurd knows
  on_at (LoadingValue stamp) e knows possible yet = tt
  on_at (UpdateBegun c) e knows possible yet = absurd knows
  on_at (GettingSet c old) e knows possible yet = getting_on c old e knows possible yet
  on_at (Viewing c old) e knows possible yet = viewing_on c old e knows yet
  on_at (ClaimingRecord c old) e knows possible yet = record_cases s c old k.answer (λ (t : CoreState). Knows z o words hs log begun first since k.at t) (λ some. knows) (λ none fits. knows)
      (λ none refused. tt)
  on_at (StoringRecord c old at n) e knows possible yet = cond_both (n + 1 == record_size s) (Exchanging c old at) (StoringRecord c old at (n + 1))
      (λ (u : Stage). Knows z o words hs log begun first since k.at (at_stage s u)) (λ last. knows) (λ more. knows)
  on_at (Exchanging c old at) e knows possible yet = tt
  on_at ScanBegun e knows possible yet = absurd knows
  on_at (StoringAnnouncement at n) e knows possible yet = cond_both (n == length s.asked) (begin_joining s at) (at_stage s (StoringAnnouncement at (n + 1)))
      (λ (t : CoreState). Knows z o words hs log begun first since k.at t) (λ last. record { called = knows.called; asked = knows.asked })
      (λ more. record { called = knows.called; asked = knows.asked })
  on_at Joining e knows possible yet = joining_on s.join.stage refl e knows
  on_at Scanning e knows possible yet = scanning_on e knows possible yet
  on_at Leaving e knows possible yet = tt
  on_at (Finished r) e knows possible yet = absurd possible
