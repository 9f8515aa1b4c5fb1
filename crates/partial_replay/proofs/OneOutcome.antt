-- Two outcomes of one plan say the same.
use Rattle.partial_replay.proofs.{Common.{ℕ, ◌≡◌, ◌<◌, ◌≤◌, ◌==◌, Bool, true, false, if◌then◌else◌, List, [], ◌∷◌, length, map, slice_index_or, Option, Some, None, refl, sym, ◌∙◌, ap, subst, inl, inr, arith, AllByRecursion, filter_map, cases_lt, eqb_tells, ext_get_or, Applied, Opening, Call, Called, IsInTime, RealTime, opening_is, PlanView, Event, AreOpeningWords, Layout, pool_base, total, record_value, Leads, words_after, fresh, step_of, HasLeastPlace, IsReplayOf, turn_lengths, Moment, event_entry, moments_from, moments_by, ports_of, events_in, turns_of, turns_by, lengths_in, MakeTurns, calls_by, steps_by, AreAllMade, HaveMade, OutcomeView}, OneList.{AreListedFrom, calls_listed, finished_but, AreMade, EndAlike, calls_same, own_call, other_call}, OneNote.notes_right, OneTrace.{moments_events, Goes, traces_same, plan_turns}, PortRuns.{PortAt, PortRun, next_at, RunOf, runs_of}, PortSteps.events_steps, TurnLengths.lengths_same}
use Rattle.partial_replay.specs.OneOutcome.{PlansHaveOneOutcome}

-- ---- the words and the trace

-- a memory opens with one list of words
opened_same : (z : Layout) (initial words words' : List ℕ) → AreOpeningWords z initial words → AreOpeningWords z initial words' → words ≡ words'
opened_same z initial words words' a b = ext_get_or 0 words words' (a.count ∙ sym b.count)
    (λ i below. let count = a.count in let within : i < total z = omega (arith, below, count) in a.each i within ∙ sym (b.each i within))

-- a trace leads to one list of words
leads_same : (words last last' : List ℕ) (es : List Event) → Leads words es last → Leads words es last' → last ≡ last'
leads_same words last last' [] a b = a ∙ sym b
leads_same words last last' (e ∷ es) a b = leads_same (words_after words e.step) last last' es a.1 b.1

-- the ports as a plan opens
abbrev opened_ports : PlanView → ℕ → PortAt
opened_ports p q = next_at (fresh p.sizes q) (slice_index_or p.ports q [])

-- the calls of a port, numbered from 0
listed_of : (p : PlanView) (x : OutcomeView) → IsReplayOf p x → (q : ℕ) → AreListedFrom q 0 (calls_by q x.calls)
listed_of p x w q = calls_listed (length x.history) q None x.calls tt w.legal.time

run_of : (p : PlanView) (x : OutcomeView) → IsReplayOf p x → (q : ℕ) →
    RunOf (fresh p.sizes q) (slice_index_or p.ports q []) (calls_by q x.calls) (map (λ (m : Moment). m.event) (moments_by p.sizes.m q x.trace))
run_of p x w q = runs_of (fresh p.sizes q) ((w.events q).0) (slice_index_or p.ports q []) (calls_by q x.calls) (moments_by p.sizes.m q x.trace) refl (w.calls q)
    (finished_but q 0 (calls_by q x.calls) (listed_of p x w q)) (w.events q).1

-- where each port ends
abbrev ports_last : (p : PlanView) (x : OutcomeView) → IsReplayOf p x → ℕ → PortAt
ports_last p x w q = (run_of p x w q).final

goes_of : (p : PlanView) (x : OutcomeView) → (w : IsReplayOf p x) → Goes (opened_ports p) (w.opened) x.trace x.words (ports_last p x w)
goes_of p x w = record {
  leads = w.leads;
  runs = λ q. subst (λ (es : List Event). PortRun (opened_ports p q) es (ports_last p x w q)) (moments_events p.sizes.m 0 q x.trace) (run_of p x w q).run;
}

rest_made : (rest : Bool) (turns steps : ℕ) (plan : List Call) (cs : List Called) → rest ≡ true → HaveMade rest turns steps plan cs → AreAllMade plan cs
rest_made rest turns steps plan cs is made = subst (λ (b : Bool). HaveMade b turns steps plan cs) is made

fewer_made : (rest : Bool) (turns steps : ℕ) (plan : List Call) (cs : List Called) → rest ≡ false → steps < turns → HaveMade rest turns steps plan cs → AreAllMade plan cs
fewer_made rest turns steps plan cs is less made = (subst (λ (b : Bool). HaveMade b turns steps plan cs) is made).2 less

-- a port that stops has no step due
abbrev Stops : (p : PlanView) (x : OutcomeView) → IsReplayOf p x → ℕ → Type 0
Stops p x w q = step_of (ports_last p x w q).core ≡ None

turns_made : (p : PlanView) (x : OutcomeView) → (w : IsReplayOf p x) → MakeTurns (Stops p x w) (turns_of p) (ports_of x.trace)
turns_made p x w = subst (MakeTurns (Stops p x w) (turns_of p)) (sym w.turns) (plan_turns (Stops p x w) p (λ q. steps_by q x.calls)
    (λ is q. (run_of p x w q).done (rest_made p.rest (turns_by q p.steps) (steps_by q x.calls) (slice_index_or p.ports q []) (calls_by q x.calls) is (w.made q)))
    (λ is q less. (run_of p x w q).done (fewer_made p.rest (turns_by q p.steps) (steps_by q x.calls) (slice_index_or p.ports q []) (calls_by q x.calls) is less (w.made q))))

-- ---- the calls of all ports

-- the ports of the calls rise from that one on
abbrev AreRising : ℕ → List Called → Type 0
AreRising q [] = Unit {0}
AreRising q (c ∷ cs) = (q ≤ c.port) × AreRising c.port cs

rising_behind : (n : ℕ) (b : Called) (cs : List Called) → RealTime n (Some b) cs → AreRising b.port cs
rising_behind n b [] w = tt
rising_behind n b (c ∷ cs) w = (elim w.0 [ inl later ↦ (let less = later.0 in omega (arith, less)) | inr same ↦ (let port = same.0 in omega (arith, port)) ], rising_behind n c cs w.2)

rising : (n : ℕ) (cs : List Called) → RealTime n None cs → AreRising 0 cs
rising n [] w = tt
rising n (c ∷ cs) w = (omega arith, rising_behind n c cs w.2)

none_below : (q r : ℕ) (cs : List Called) → q < r → AreRising r cs → calls_by q cs ≡ []
none_below q r [] less w = refl
none_below q r (c ∷ cs) less w = let low = w.0 in other_call q c cs (λ h. omega (arith, h, low, less)) ∙ none_below q c.port cs (omega (arith, less, low)) w.1

-- calls of rising ports are the same where those of each port are
rising_same : (r s : ℕ) (xs ys : List Called) → AreRising r xs → AreRising s ys → ((q : ℕ) → calls_by q xs ≡ calls_by q ys) → xs ≡ ys
rising_same r s [] [] w v same = refl
rising_same r s [] (y ∷ ys) w v same = let bad : [] ≡ y ∷ calls_by y.port ys = same y.port ∙ own_call y.port y ys refl in cc
rising_same r s (x ∷ xs) [] w v same = let bad : x ∷ calls_by x.port xs ≡ [] = sym (own_call x.port x xs refl) ∙ same x.port in cc
rising_same r s (x ∷ xs) (y ∷ ys) w v same = elim (cases_lt x.port y.port) [
  | inl less ↦
      let none : calls_by x.port (y ∷ ys) ≡ [] = none_below x.port y.port (y ∷ ys) less (omega arith, v.1) in
      let bad : x ∷ calls_by x.port xs ≡ [] = sym (own_call x.port x xs refl) ∙ same x.port ∙ none in
      cc
  | inr from ↦ elim (cases_lt y.port x.port) [
    | inl less ↦
        let none : calls_by y.port (x ∷ xs) ≡ [] = none_below y.port x.port (x ∷ xs) less (omega arith, w.1) in
        let bad : y ∷ calls_by y.port ys ≡ [] = sym (own_call y.port y ys refl) ∙ sym (same y.port) ∙ none in
        cc
    | inr back ↦
        let port : y.port ≡ x.port = omega (arith, from, back) in
        let both : x ∷ calls_by x.port xs ≡ y ∷ calls_by x.port ys = sym (own_call x.port x xs refl) ∙ same x.port ∙ own_call x.port y ys port in
        let first : x ≡ y = cc in
        let own : calls_by x.port xs ≡ calls_by x.port ys = cc in
        let rest : (q : ℕ) → calls_by q xs ≡ calls_by q ys = λ q. elim (eqb_tells x.port q) [
          | inl is ↦ ap (λ k. calls_by k xs) (sym is.1) ∙ own ∙ ap (λ k. calls_by k ys) is.1
          | inr other ↦ sym (other_call q x xs other.1) ∙ same q ∙ other_call q y ys (λ h. other.1 (sym port ∙ h))
        ] in
        ap (λ (c : Called). c ∷ xs) first ∙ ap (λ (l : List Called). y ∷ l) (rising_same x.port y.port xs ys w.1 v.1 rest)
  ]
]

-- what holds of all calls holds of those of a port
all_by : (P : Called → Type 0) (q : ℕ) (cs : List Called) → AllByRecursion P cs → AllByRecursion P (calls_by q cs)
all_by P q [] w = tt
all_by P q (c ∷ cs) w = kept (c.port == q) (calls_by q cs) (all_by P q cs w.1)
  where
    kept : (b : Bool) (l : List Called) → AllByRecursion P l → AllByRecursion P (if b then c ∷ l else l)
    kept true l v = (w.0, v)
    kept false l v = v

all_in_time : (n : ℕ) (b : Option Called) (cs : List Called) → RealTime n b cs → AllByRecursion (IsInTime n) cs
all_in_time n b [] w = tt
all_in_time n b (c ∷ cs) w = (w.1, all_in_time n (Some c) cs w.2)

made_of : (p : PlanView) (x : OutcomeView) → IsReplayOf p x → (q : ℕ) →
    AreMade x.opening x.history q (turn_lengths p x q) (slice_index_or p.ports q []) 0 0 (fresh p.sizes q) (moments_by p.sizes.m q x.trace) (calls_by q x.calls)
made_of p x w q = record {
  first = w.calls q;
  listed = listed_of p x w q;
  begins = w.begins q;
  right = notes_right x.opening x.history q 0 (calls_by q x.calls) (w.legal.notes q)
      (all_by (IsInTime (length x.history)) q x.calls (all_in_time (length x.history) None x.calls w.legal.time))
      (all_by (HasLeastPlace x.opening x.history) q x.calls w.places);
  last = (w.events q).0;
  steps = (w.events q).1;
}

steps_of : (p : PlanView) (x : OutcomeView) → IsReplayOf p x → (q : ℕ) → steps_by q x.calls ≡ events_in q (ports_of x.trace)
steps_of p x w q = events_steps (fresh p.sizes q) ((w.events q).0) p.sizes.m q x.trace (calls_by q x.calls) (w.events q).1

-- both end alike
alike_of : (rest : Bool) (turns steps : ℕ) (plan : List Call) (cs ds : List Called) → HaveMade rest turns steps plan cs → HaveMade rest turns steps plan ds → EndAlike plan cs ds
alike_of true turns steps plan cs ds a b = inl (a.0, b.0)
alike_of false turns steps plan cs ds a b = elim (cases_lt steps turns) [
  | inl less ↦ inl ((a.2 less).0, (b.2 less).0)
  | inr from ↦ let within = a.0 in let all : steps ≡ turns = omega (arith, from, within) in inr (a.1 all, b.1 all)
]

-- outcomes that agree in all that they say are one
views_same : (a b : OutcomeView) → a.opening ≡ b.opening → a.history ≡ b.history → a.calls ≡ b.calls → a.words ≡ b.words → a.trace ≡ b.trace → a.steps ≡ b.steps → a ≡ b
views_same a b opening history calls words trace steps =
    ap (λ (o : Opening). record { opening = o; history = a.history; calls = a.calls; words = a.words; trace = a.trace; steps = a.steps }) opening
    ∙ ap (λ (h : List Applied). record { opening = b.opening; history = h; calls = a.calls; words = a.words; trace = a.trace; steps = a.steps }) history
    ∙ ap (λ (cs : List Called). record { opening = b.opening; history = b.history; calls = cs; words = a.words; trace = a.trace; steps = a.steps }) calls
    ∙ ap (λ (ws : List ℕ). record { opening = b.opening; history = b.history; calls = b.calls; words = ws; trace = a.trace; steps = a.steps }) words
    ∙ ap (λ (es : List Event). record { opening = b.opening; history = b.history; calls = b.calls; words = b.words; trace = es; steps = a.steps }) trace
    ∙ ap (λ n. record { opening = b.opening; history = b.history; calls = b.calls; words = b.words; trace = b.trace; steps = n }) steps

pub plans_have_one_outcome : PlansHaveOneOutcome
plans_have_one_outcome p a b w v =
    let z = p.sizes in
    let opened : v.opened ≡ w.opened = opened_same z p.initial (v.opened) (w.opened) v.opens w.opens in
    let goes : Goes (opened_ports p) (w.opened) b.trace b.words (ports_last p b v) = subst (λ (l : List ℕ). Goes (opened_ports p) l b.trace b.words (ports_last p b v))
    opened (goes_of p b v) in
    let trace : a.trace ≡ b.trace = traces_same (Stops p a w) (Stops p b v) (turns_of p) a.words b.words (ports_last p a w) (ports_last p b v) (λ q d. d) (λ q d. d)
    (opened_ports p) (w.opened) a.trace b.trace (goes_of p a w) goes (turns_made p a w) (turns_made p b v) in
    let words : a.words ≡ b.words = leads_same (w.opened) a.words b.words b.trace
    (subst (λ (es : List Event). Leads (w.opened) es a.words) trace w.leads) goes.leads in
    let opening : a.opening ≡ b.opening = opening_is a.opening p.initial (pool_base z) w.values w.first ∙ sym (opening_is b.opening p.initial (pool_base z) v.values v.first) in
    let history : a.history ≡ b.history = w.entries ∙ ap (λ (l : List ℕ). filter_map (event_entry z.m (record_value l)) a.trace) words ∙
    ap (filter_map (event_entry z.m (record_value b.words))) trace ∙ sym v.entries in
    let steps : (q : ℕ) → steps_by q b.calls ≡ steps_by q a.calls = λ q. steps_of p b v q ∙ ap (λ (es : List Event). events_in q (ports_of es)) (sym trace) ∙ sym (steps_of p a w q) in
    let lengths : (q : ℕ) → turn_lengths p b q ≡ turn_lengths p a q = λ q.
    lengths_same q (turns_of p) (λ r. steps_by r b.calls) (λ r. steps_by r a.calls) 0 (moments_from z.m 0 b.trace) steps
    ∙ ap (λ (es : List Event). lengths_in q (turns_of p) (λ r. steps_by r a.calls) 0 (moments_from z.m 0 es)) (sym trace) in
    let own : (q : ℕ) → calls_by q a.calls ≡ calls_by q b.calls = λ q.
    let plan = slice_index_or p.ports q [] in
    let ds = calls_by q b.calls in
    let first = fresh z q in
    let other : AreMade a.opening a.history q (turn_lengths p a q) plan 0 0 first (moments_by z.m q a.trace) ds =
    subst (λ (o : Opening). AreMade o a.history q (turn_lengths p a q) plan 0 0 first (moments_by z.m q a.trace) ds) (sym opening)
    (subst (λ (h : List Applied). AreMade b.opening h q (turn_lengths p a q) plan 0 0 first (moments_by z.m q a.trace) ds) (sym history)
    (subst (λ (ls : List ℕ). AreMade b.opening b.history q ls plan 0 0 first (moments_by z.m q a.trace) ds) (lengths q)
    (subst (λ (es : List Event). AreMade b.opening b.history q (turn_lengths p b q) plan 0 0 first (moments_by z.m q es) ds) (sym trace) (made_of p b v q)))) in
    let made : HaveMade p.rest (turns_by q p.steps) (steps_by q a.calls) plan ds = subst (λ n. HaveMade p.rest (turns_by q p.steps) n plan ds) (steps q) (v.made q) in
    calls_same a.opening a.history q (turn_lengths p a q) plan 0 0 first (moments_by z.m q a.trace) (calls_by q a.calls) ds (w.legal.history).distinct (made_of p a w q) other
    (alike_of p.rest (turns_by q p.steps) (steps_by q a.calls) plan (calls_by q a.calls) ds (w.made q) made) in
    let calls : a.calls ≡ b.calls = rising_same 0 0 a.calls b.calls (rising (length a.history) a.calls w.legal.time) (rising (length b.history) b.calls v.legal.time) own in
    views_same a b opening history calls words trace (w.steps ∙ ap length trace ∙ sym v.steps)
