-- The answered scans of a replay make their steps.
use Rattle.partial_replay.proofs.{Common.{ℕ, zero, suc, ◌≡◌, ◌<◌, ◌++◌, Bool, if◌then◌else◌, List, [], ◌∷◌, length, map, slice_index_or, Option, Some, None, refl, sym, ◌∙◌, ap, subst, inl, inr, arith, AllByRecursion, option_map, eqb_tells, length-map, Call, Called, Finish, all_take, Layout, IsLayout, Reply, Idle, ScanBegun, Finished, CoreState, at_stage, advance, reply_of, fresh, IsSound, begin_scan, answer_for, begun_of, IsServed, due_is_unreplied, rests_are_sound, stays_sound, scans_make_their_steps, PlanView, IsPlan, IsCall, Moment, moments_by, Makes, IsCallRun, HasSteps, AreStepsOf, calls_by, Answer}, PortLaws.{Begins, begins, begun_sizes, once_empty}, StepsOf.{IsCut, steps_cut}, Plans.served}
use Rattle.partial_machine.specs.Steps.{Run, AreOfScan, pairs_loaded}
use Rattle.partial_machine.proofs.Behind.{run_sizes}
use Rattle.partial_replay.specs.ScanSteps.{moment_answers, events_in_front, own_events, IsOfItsScan, AnsweredScansMakeTheirSteps}

-- the events are answers that lead the machine on
run_of : (s t : CoreState) (xs : List Moment) → Makes s xs t → Run s (moment_answers xs) t
run_of s t [] m = m
run_of s t (x ∷ xs) m = (m.1, run_of (advance s x.event.answer) t xs m.2)

-- a call with steps, as its machine sees it
record CallRun (z : Layout) (s : CoreState) (c : Called) (own : List Moment) (last : CoreState) : Type 0 where
  begins' : Begins s c.call
  layout : IsLayout (begun_of s c.call).sizes
  sound : IsSound (begun_of s c.call)
  run : Run (begun_of s c.call) (moment_answers own) last
  last_sound : IsSound last
  last_sizes : last.sizes ≡ z

call_run : (z : Layout) (s t : CoreState) (c : Called) (x : Moment) (xs : List Moment) → IsLayout z → s.sizes ≡ z → IsSound s → IsServed z.m c.call → (h : HasSteps s c x xs t) →
    CallRun z s c (x ∷ xs) h.last
call_run z s t c x xs layout sizes w served h =
    let unreplied : reply_of (begun_of s c.call) ≡ None = due_is_unreplied (begun_of s c.call) x.event.step h.makes.0 in
    let b = begins s c.call w.asked (subst (λ (y : Layout). IsServed y.m c.call) (sym sizes) served) h.begins unreplied in
    let sound = b.sound w in
    let same : (begun_of s c.call).sizes ≡ z = begun_sizes s c.call ∙ sizes in
    let here : IsLayout (begun_of s c.call).sizes = subst IsLayout (sym same) layout in
    let run = run_of (begun_of s c.call) h.last (x ∷ xs) h.makes in
    record {
      begins' = b;
      layout = here;
      sound = sound;
      run = run;
      last_sound = (stays_sound (begun_of s c.call) h.last (moment_answers (x ∷ xs)) here sound run).0;
      last_sizes = run_sizes (begun_of s c.call) h.last (moment_answers (x ∷ xs)) here sound run ∙ same;
    }

-- the machine after a call is sound and has the same sizes
call_sound : (z : Layout) (s t : CoreState) (c : Called) (own : List Moment) → IsLayout z → s.sizes ≡ z → IsSound s → IsServed z.m c.call → IsCallRun s c own t → IsSound t × (t.sizes ≡ z)
call_sound z s t c [] layout sizes w served h = elim h [
  | inl r ↦ (subst IsSound (sym r.rests) w, ap (λ (v : CoreState). v.sizes) r.rests ∙ sizes)
  | inr f ↦
      let empty : at_stage (begun_of s c.call) Idle ≡ at_stage (begin_scan s []) Idle = ap (λ (d : Call). at_stage (begun_of s d) Idle) (once_empty s c.call f.reply f.replied).0 in
      let is : t ≡ at_stage (begin_scan s []) Idle = f.rests ∙ empty in
      let sound : IsSound (at_stage (begin_scan s []) Idle) = record {
        asked = record { few = omega arith; each = λ k below. absurd (omega (arith, below)) };
        found = w.found;
        indices = w.indices;
        distinct = w.distinct;
        rows = w.rows;
        ahead = w.ahead;
        spare = w.spare;
        stage = tt;
      } in
      (subst IsSound (sym is) sound, ap (λ (v : CoreState). v.sizes) is ∙ sizes)
]
call_sound z s t c (x ∷ xs) layout sizes w served h =
    let r = call_run z s t c x xs layout sizes w served h in
    (subst IsSound (sym h.rests) (rests_are_sound.idle h.last r.last_sound), ap (λ (v : CoreState). v.sizes) h.rests ∙ r.last_sizes)

-- the reply after the answer of a scan
scan_replied : (s : CoreState) (f : Option Reply) (vs : List ℕ) (k : ℕ) (b : Option ℕ) → option_map (answer_for s) f ≡ Some (Answer.Scanned vs k b) → f ≡ Some (Reply.Scanned k b)
scan_replied s None vs k b e = let bad : None ≡ Some (Answer.Scanned vs k b) = e in cc
scan_replied s (Some (Reply.Applied stamp)) vs k b e = let bad : Some (Answer.Applied stamp) ≡ Some (Answer.Scanned vs k b) = e in cc
scan_replied s (Some (Reply.Lost by)) vs k b e = let bad : Some (Answer.Lost by) ≡ Some (Answer.Scanned vs k b) = e in cc
scan_replied s (Some (Reply.Scanned c d)) vs k b e = same_scan _ vs c k d b e
  where
    same_scan : (us vs : List ℕ) (c k : ℕ) (d b : Option ℕ) → Some (Answer.Scanned us c d) ≡ Some (Answer.Scanned vs k b) → Some (Reply.Scanned c d) ≡ Some (Reply.Scanned k b)
    same_scan us vs c k d b e = cc
scan_replied s (Some (Reply.Read v stamp)) vs k b e = let bad : Some (Answer.Read v stamp) ≡ Some (Answer.Scanned vs k b) = e in cc
scan_replied s (Some (Reply.Refused cause)) vs k b e = let bad : Some (Answer.Refused cause) ≡ Some (Answer.Scanned vs k b) = e in cc
scan_replied s (Some (Reply.Changed by)) vs k b e = let bad : Some (Answer.Changed by) ≡ Some (Answer.Scanned vs k b) = e in cc

scan_begun : (s : CoreState) (js : List ℕ) → 0 < length js → (begin_scan s js).stage ≡ ScanBegun
scan_begun s js some = elim (eqb_tells (length js) 0) [
  | inl none ↦ let n = none.1 in absurd (omega (arith, n, some))
  | inr some' ↦ ap (λ (b : Bool). if b then Finished (Reply.Scanned 0 None) else ScanBegun) some'.0
]

scan_of : (z : Layout) (first : CoreState) (front : List Called) (c : Called) (behind : List Called) (xs : List Moment) (last : CoreState)
    (cut : IsCut first front c behind xs last) (own : List Moment) →
    own ≡ own_events front c xs → IsLayout z → (cut.at).sizes ≡ z → IsSound (cut.at) → IsServed z.m c.call → IsCallRun cut.at c own cut.next → IsOfItsScan first xs front c
scan_of z first front c behind xs last cut [] own_is layout sizes w served h js vs k b is some answered = elim h [
  | inl r ↦ let bad : Some (Answer.Refused r.cause) ≡ Some (Answer.Scanned vs k b) = sym (ap (option_map (λ (f : Finish). f.answer)) r.finish) ∙ answered in cc
  | inr f ↦
      let empty : Call.Scan [] ≡ Call.Scan js = sym (once_empty cut.at c.call f.reply f.replied).0 ∙ is in
      let none : [] ≡ js = cc in
      let n : 0 ≡ length js = ap length none in
      absurd (omega (arith, n, some))
]
scan_of z first front c behind xs last cut (y ∷ ys) own_is layout sizes w served h js vs k b is some answered =
    let s = cut.at in
    let r = call_run z s cut.next c y ys layout sizes w served h in
    let own = moment_answers (y ∷ ys) in
    let replied : reply_of h.last ≡ Some (Reply.Scanned k b) = scan_replied h.last (reply_of h.last) vs k b (sym h.answered ∙ answered) in
    let begun : begun_of s c.call ≡ begin_scan s js = ap (begun_of s) is in
    let stage : (begun_of s c.call).stage ≡ ScanBegun = ap (λ (v : CoreState). v.stage) begun ∙ scan_begun s js some in
    let made = scans_make_their_steps (begun_of s c.call) h.last own k b r.layout r.sound stage r.run replied in
    let positions : length (begun_of s c.call).asked ≡ length js = ap (λ (v : CoreState). length v.asked) begun in
    let events : length own ≡ c.steps = length-map (y ∷ ys) _ ∙ ap length own_is ∙ cut.events in
    let counted : AreOfScan (length js) k (pairs_loaded (begun_of s c.call) own) c.steps b = subst (λ n. AreOfScan (length js) k (pairs_loaded (begun_of s c.call) own) n b) events
    (subst (λ n. AreOfScan n k (pairs_loaded (begun_of s c.call) own) (length own) b) positions made) in
    record {
      s = s;
      t = cut.next;
      led = cut.led;
      call' = cut.call';
      events = cut.events;
      steps = subst (λ (l : List Moment). AreOfScan (length js) k (pairs_loaded (begun_of s c.call) (moment_answers l)) c.steps b) own_is counted;
    }

-- the machine after some calls is sound and has the same sizes
calls_sound : (z : Layout) (s t : CoreState) (cs : List Called) (xs : List Moment) → IsLayout z → s.sizes ≡ z → IsSound s → AllByRecursion (IsServed z.m) (map (λ (c : Called). c.call) cs) →
    AreStepsOf s cs xs t → IsSound t × (t.sizes ≡ z)
calls_sound z s t [] xs layout sizes w served h = (subst IsSound (sym h.1) w, ap (λ (v : CoreState). v.sizes) h.1 ∙ sizes)
calls_sound z s t (c ∷ cs) xs layout sizes w served h =
    let behind = call_sound z s (h.2) c (h.0) layout sizes w served.0 h.5 in
    calls_sound z (h.2) t cs (h.1) layout behind.1 behind.0 served.1 h.6

-- the calls in front of one, and that one, are served where all are
served_front : (m : ℕ) (front : List Called) (c : Called) (behind : List Called) → AllByRecursion (IsServed m) (map (λ (d : Called). d.call) (front ++ c ∷ behind)) →
    AllByRecursion (IsServed m) (map (λ (d : Called). d.call) front) × IsServed m c.call
served_front m [] c behind w = (tt, w.0)
served_front m (d ∷ front) c behind w = let rest = served_front m front c behind w.1 in ((w.0, rest.0), rest.1)

-- the calls of a port of a plan are ones that its machine serves
plan_served : (p : PlanView) (q : ℕ) → IsPlan p → AllByRecursion (IsServed p.sizes.m) (slice_index_or p.ports q [])
plan_served p q w = at p.ports q w.calls
  where
    at : (ports : List (List Call)) (q : ℕ) → AllByRecursion (λ cs. AllByRecursion (IsCall p.sizes.m) cs) ports → AllByRecursion (IsServed p.sizes.m) (slice_index_or ports q [])
    at [] q all = tt
    at (cs ∷ ports) zero all = served p.sizes.m cs all.0
    at (cs ∷ ports) (suc q) all = at ports q all.1

pub answered_scans_make_their_steps : AnsweredScansMakeTheirSteps
answered_scans_make_their_steps p outcome plan w q front c behind is =
    let z = p.sizes in
    let cs = calls_by q outcome.calls in
    let first = fresh z q in
    let xs = moments_by z.m q outcome.trace in
    let events = w.events q in
    let calls : AllByRecursion (IsServed z.m) (map (λ (d : Called). d.call) cs) = subst (AllByRecursion (IsServed z.m)) (sym (w.calls q))
    (all_take (IsServed z.m) (length cs) (slice_index_or p.ports q []) (plan_served p q plan)) in
    let served = served_front z.m front c behind (subst (λ (l : List Called). AllByRecursion (IsServed z.m) (map (λ (d : Called). d.call) l)) is calls) in
    let cut = steps_cut first (events.0) front c behind xs (subst (λ (l : List Called). AreStepsOf first l xs (events.0)) is events.1) in
    let sound = calls_sound z first cut.at front (events_in_front front xs) plan.sizes refl (rests_are_sound.fresh z q plan.sizes) served.0 cut.led in
    scan_of z first front c behind xs (events.0) cut (own_events front c xs) refl plan.sizes sound.1 sound.0 served.1 cut.call'
