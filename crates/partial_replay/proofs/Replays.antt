-- What a replay ends with is an outcome of its plan.
use Rattle.partial_replay.proofs.{Common.{ℕ, Bool, true, false, if◌then◌else◌, zero, suc, ◌⊎◌, ◌≡◌, ◌<◌, ◌≤◌, ◌==◌, List, [], ◌∷◌, length, map, take, slice_index_or, Some, slice_get, refl, sym, ◌∙◌, ap, subst, inl, inr, arith, filter_map, sum_by, AllByRecursion, get_or_from_slice_get, Applied, Opening, Call, Called, LegalOutcome, Event, Layout, pool_base, record_value, Leads, Agrees, AreOpeningWords, sum_by-cons, PlanView, CoreState, fresh, AreStepsOf, most_steps, Port, Run, HasLeastPlace, event_entry, moments_from, moments_by, ports_of, events_in, turns_of, turns_by, ports_in, lengths_in, BeginInTurns, calls_by, steps_by, AreFirstOf, AreAllMade, EndInStep, HaveMade, AreFew, IsReplayOf, turn_lengths, AreStarted, IsRunOf, GivesOutcome, calls_in, StopsAtStep, StopAtSteps, IsPortDone, BeganInTurns, lengths_so_far, lawful_ports_fit, place_below, OutcomeView, ReplayState, PortAt, HasReplayed}, PortSteps.{ending_begun, steps_begun, events_steps, none_moments}, RunLaws.PartAt, RunSteps.{ports_length, part_at}, LegalOutcomes.{begun_by, few_told, least_told, run_legal, listed_at, none_listed, first_begun, all_made}, TurnLaws.{follows_ports, turns_told}, TurnLengths.lengths_same, PortTurns.turns_over, Traces.entries_told}

-- a place of a list is in it or past its end
pub at_place : {A : Type 0} (xs : List A) (i : ℕ) → ((x : A) × (slice_get xs i ≡ Some x)) ⊎ (length xs ≤ i)
at_place [] i = inr (omega arith)
at_place (x ∷ xs) zero = inl (x, refl)
at_place (x ∷ xs) (suc i) = elim (at_place xs i) [ inl found ↦ inl found | inr past ↦ inr (omega (arith, past)) ]

pub past_get : {A : Type 0} (xs : List A) (i : ℕ) (d : A) → length xs ≤ i → slice_index_or xs i d ≡ d
past_get [] i d past = refl
past_get (x ∷ xs) zero d past = absurd (omega (arith, past))
past_get (x ∷ xs) (suc i) d past = past_get xs i d (omega (arith, past))

module _ {plans : List (List Call)} {s : ReplayState} (w : IsRunOf plans s) where
  abbrev listed : List Called
  listed = calls_in plans s.ports

  -- what port q lists: the calls that it has begun
  record Lists (q : ℕ) : Type 0 where
    calls : List Call
    port : Port
    at : PortAt plans s.ports q calls port
    part : PartAt plans s q calls port
    is : calls_by q listed ≡ begun_by calls port
    plan : slice_index_or plans q [] ≡ calls

  abbrev lists_at : (q : ℕ) (calls : List Call) (port : Port) → PortAt plans s.ports q calls port → Lists q
  lists_at q calls port at =
      record {
        calls = calls;
        port = port;
        at = at;
        part = part_at w at;
        is = listed_at q q w.fit (omega arith) at.plan at.is;
        plan = get_or_from_slice_get plans q calls [] at.plan;
      }

  -- what holds of the calls that a port of the plan lists, and of none at a port that the plan doesn't have, holds of each port's
  each_lists : (P : List Call → List Called → Type 0) (q : ℕ) → ((l : Lists q) → P l.calls (begun_by l.calls l.port)) → (length plans ≤ q → P [] []) → P (slice_index_or plans q []) (calls_by q listed)
  each_lists P q own past = elim (at_place plans q) [
    | inl found ↦
        let same = ports_length w.fit in
        let below = place_below plans q found.0 found.1 in
        elim (at_place s.ports q) [
          | inl port ↦
              let l = lists_at q found.0 port.0 (record { plan = found.1; is = port.1 }) in
              subst (λ (d : List Call). P d (calls_by q listed)) (sym l.plan) (subst (P l.calls) (sym l.is) (own l))
          | inr beyond ↦ absurd (omega (arith, same, below, beyond))
        ]
    | inr beyond ↦
        subst (λ (d : List Call). P d (calls_by q listed)) (sym (past_get plans q [] beyond))
        (subst (P []) (sym (none_listed q (inr (omega (arith, beyond))) w.fit)) (past beyond))
  ]

  pub calls_told : (q : ℕ) → AreFirstOf (slice_index_or plans q []) (calls_by q listed)
  calls_told q = each_lists AreFirstOf q (λ l. first_begun l.part.fits) (λ past. refl)

  -- a port that has made all its calls lists them all, and one that the plan doesn't have lists none
  pub done_told : (q : ℕ) → IsPortDone plans s.ports q → AreAllMade (slice_index_or plans q []) (calls_by q listed)
  done_told q d =
      let l = lists_at q d.calls d.port d.at in
      subst (AreAllMade (slice_index_or plans q [])) (sym l.is)
      (subst (λ (e : List Call). AreAllMade e (begun_by d.calls d.port)) (sym l.plan) (all_made l.part.fits d.idle d.all))

  pub past_told : (q : ℕ) → length plans ≤ q → AreAllMade (slice_index_or plans q []) (calls_by q listed)
  past_told q past = each_lists AreAllMade q (λ l. let below = place_below plans q l.calls l.at.plan in absurd (omega (arith, below, past))) (λ _. (refl, tt))

  -- each port's events are the steps of the calls that it lists
  pub events_told : AreStarted s.ports → (q : ℕ) → (last : CoreState) × AreStepsOf (fresh s.sizes q) (calls_by q listed) (moments_by s.sizes.m q s.memory.trace) last
  events_told started q = each_lists (λ _ cs. (last : CoreState) × AreStepsOf (fresh s.sizes q) cs (moments_by s.sizes.m q s.memory.trace) last) q
      (λ l. steps_begun l.part.fits (w.made q l.calls l.port l.at) (λ v way. started q l.port v l.at.is way))
      (λ past. (fresh s.sizes q, (none_moments s.sizes.m q (length plans) s.memory.trace past w.senders, refl)))

  -- each call that a port lists has begun in the turn after the steps of those in front of it
  pub begins_told : (q : ℕ) (ls : List ℕ) → BeganInTurns 0 plans q ls s.ports → BeginInTurns ls 0 (calls_by q listed)
  begins_told q ls begun = each_lists (λ _. BeginInTurns ls 0) q (λ l. turns_over l.calls ls l.port (begun l.calls l.port l.at)) (λ past. tt)

  -- what a port lists ends in a step, where it has begun no call since
  pub ending_told : AreStarted s.ports → (q : ℕ) → StopsAtStep s.ports q → EndInStep (calls_by q listed)
  ending_told started q ends = each_lists (λ _. EndInStep) q (λ l. ending_begun l.part.fits l.at ends (λ v way. started q l.port v l.at.is way)) (λ past. tt)

-- calls that have made no more steps than they may, and how many those are
few_by : (z : Layout) (q : ℕ) (cs : List Called) → AreFew z cs → AreFew z (calls_by q cs)
few_by z q [] w = tt
few_by z q (c ∷ cs) w = kept (c.port == q) (calls_by q cs) (few_by z q cs w.1)
  where
    kept : (b : Bool) (rest : List Called) → AreFew z rest → AreFew z (if b then c ∷ rest else rest)
    kept true rest few = (w.0, few)
    kept false rest few = few

few_sum : (z : Layout) (cs : List Called) → AreFew z cs → sum_by (λ (c : Called). c.steps) cs ≤ sum_by (most_steps z) (map (λ (c : Called). c.call) cs)
few_sum z [] w = omega arith
few_sum z (c ∷ cs) w =
    let rest = few_sum z cs w.1 in
    let one = w.0 in
    let steps = sum_by-cons (λ (d : Called). d.steps) c cs in
    let most = sum_by-cons (most_steps z) c.call (map (λ (d : Called). d.call) cs) in
    omega (arith, rest, one, steps, most)

take_sum : (f : Call → ℕ) (n : ℕ) (cs : List Call) → sum_by f (take n cs) ≤ sum_by f cs
take_sum f zero cs = omega arith
take_sum f (suc n) [] = omega arith
take_sum f (suc n) (c ∷ cs) =
    let rest = take_sum f n cs in
    let front = sum_by-cons f c (take n cs) in
    let all = sum_by-cons f c cs in
    omega (arith, rest, front, all)

-- a port with more turns than its calls make steps at most makes them all
calls_wait : (z : Layout) (rest : Bool) (turns : ℕ) (plan : List Call) (cs : List Called) → AreFew z cs → AreFirstOf plan cs → sum_by (most_steps z) plan < turns →
    HaveMade rest turns (sum_by (λ (c : Called). c.steps) cs) plan cs → AreAllMade plan cs
calls_wait z true turns plan cs few first less made = made
calls_wait z false turns plan cs few first less made =
    let steps = few_sum z cs few in
    let front : sum_by (most_steps z) (map (λ (c : Called). c.call) cs) ≡ sum_by (most_steps z) (take (length cs) plan) = ap (sum_by (most_steps z)) first in
    let all = take_sum (most_steps z) (length cs) plan in
    made.2 (omega (arith, steps, front, all, less))

-- a run that has ended gives an outcome of its plan
pub replay_told : (p : PlanView) (run : Run) (outcome : OutcomeView) → HasReplayed p p.ports (turns_of p) run → (p.rest ≡ false → StopAtSteps p.steps run) → GivesOutcome p.ports run outcome →
    IsReplayOf p outcome
replay_told p run outcome replayed ends t =
    let w = replayed.between.replay.state in
    let started = replayed.between.started in
    let sizes = replayed.sizes in
    let f = replayed.made in
    let z = run.memory.sizes in
    let o = run.opening in
    let legal : LegalOutcome outcome.opening outcome.history outcome.calls =
    subst (λ (h : List Applied). LegalOutcome outcome.opening h outcome.calls) (sym t.history)
    (subst (λ (l : List Called). LegalOutcome outcome.opening run.memory.history.items l) (sym t.calls)
    (subst (λ (v : Opening). LegalOutcome v run.memory.history.items (calls_in p.ports run.ports.items)) (sym t.opening)
    (run_legal w))) in
    let agrees : Agrees outcome.opening outcome.words outcome.history =
    subst (λ (h : List Applied). Agrees outcome.opening outcome.words h) (sym t.history)
    (subst (λ (ws : List ℕ). Agrees outcome.opening ws run.memory.history.items) (sym t.words)
    (subst (λ (v : Opening). Agrees v run.memory.words run.memory.history.items) (sym t.opening) w.lawful.memory.agrees)) in
    let D = IsPortDone p.ports run.ports.items in
    let calls = calls_in p.ports run.ports.items in
    let ports = ports_of run.memory.trace in
    let events = events_told w started in
    let steps : (q : ℕ) → steps_by q calls ≡ events_in q ports = λ q. events_steps (fresh z q) (events q).0 z.m q run.memory.trace (calls_by q calls) (events q).1 in
    let ending : (q : ℕ) → p.rest ≡ false → events_in q ports ≡ turns_by q p.steps → EndInStep (calls_by q calls) = λ q no same.
    ending_told w started q (ends no q same) in
    let made : (q : ℕ) → HaveMade p.rest (turns_by q p.steps) (steps_by q calls) (slice_index_or p.ports q []) (calls_by q calls) = λ q.
    subst (λ n. HaveMade p.rest (turns_by q p.steps) n (slice_index_or p.ports q []) (calls_by q calls)) (sym (steps q))
    (turns_told D p ports q (calls_by q calls) (done_told w q) (past_told w q) (ending q) f) in
    let turns : ports ≡ ports_in (turns_of p) (λ q. steps_by q calls) = follows_ports D (turns_of p) ports (λ q. steps_by q calls) steps f in
    let entries = entries_told z.m o run.memory.words run.memory.trace run.memory.history.items w.lawful.memory.history w.lawful.memory.agrees w.entries in
    let firsts : (q : ℕ) → AreFirstOf (slice_index_or p.ports q []) (calls_by q outcome.calls) = λ q. subst (λ (l : List Called). AreFirstOf (slice_index_or p.ports q []) (calls_by q l)) (sym t.calls)
    (calls_told w q) in
    let all_made : (q : ℕ) → HaveMade p.rest (turns_by q p.steps) (steps_by q outcome.calls) (slice_index_or p.ports q []) (calls_by q outcome.calls) =
    λ q. subst (λ (l : List Called). HaveMade p.rest (turns_by q p.steps) (steps_by q l) (slice_index_or p.ports q []) (calls_by q l)) (sym t.calls) (made q) in
    let lengths : (q : ℕ) → lengths_so_far q (turns_of p) run ≡ turn_lengths p outcome q = λ q.
    lengths_same q (turns_of p) (λ r. events_in r ports) (λ r. steps_by r calls) 0 (moments_from z.m 0 run.memory.trace) (λ r. sym (steps r))
    ∙ ap (λ (l : List Called). lengths_in q (turns_of p) (λ r. steps_by r l) 0 (moments_from z.m 0 run.memory.trace)) (sym t.calls)
    ∙ ap (λ (es : List Event). lengths_in q (turns_of p) (λ r. steps_by r outcome.calls) 0 (moments_from z.m 0 es)) (sym t.trace)
    ∙ ap (λ (y : Layout). lengths_in q (turns_of p) (λ r. steps_by r outcome.calls) 0 (moments_from y.m 0 outcome.trace)) sizes in
    let begins : (q : ℕ) → BeginInTurns (turn_lengths p outcome q) 0 (calls_by q outcome.calls) = λ q.
    subst (λ (l : List Called). BeginInTurns (turn_lengths p outcome q) 0 (calls_by q l)) (sym t.calls)
    (subst (λ (l : List ℕ). BeginInTurns l 0 (calls_by q calls)) (lengths q)
    (begins_told w q (lengths_so_far q (turns_of p) run) (replayed.begun q))) in
    let few : AreFew p.sizes outcome.calls = subst (λ (y : Layout). AreFew y outcome.calls) sizes
    (subst (AreFew z) (sym t.calls) (few_told z w.fit
    (lawful_ports_fit z o run.memory.words w.parts run.memory.history.items w.lawful).sizes)) in
    record {
      values = ap (λ (v : Opening). v.values) t.opening ∙ replayed.values;
      first = ap (λ (v : Opening). v.first) t.opening ∙ w.lawful.memory.stamps ∙ ap pool_base sizes;
      legal = legal;
      agrees = agrees;
      places = subst (λ (v : Opening). AllByRecursion (HasLeastPlace v outcome.history) outcome.calls) (sym t.opening)
          (subst (λ (h : List Applied). AllByRecursion (HasLeastPlace o h) outcome.calls) (sym t.history)
          (subst (AllByRecursion (HasLeastPlace o run.memory.history.items)) (sym t.calls) (least_told w.fit)));
      calls = firsts;
      opened = w.opened;
      opens = subst (λ (l : Layout). AreOpeningWords l p.initial w.opened) sizes (subst (λ (l : List ℕ). AreOpeningWords z l w.opened) replayed.values w.opens);
      leads = subst (λ (es : List Event). Leads w.opened es outcome.words) (sym t.trace) (subst (λ (ws : List ℕ). Leads w.opened run.memory.trace ws) (sym t.words) w.leads);
      steps = t.steps ∙ ap length (sym t.trace);
      entries = t.history ∙ entries ∙ ap (λ (l : Layout). filter_map (event_entry l.m (record_value run.memory.words)) run.memory.trace) sizes ∙
          ap (λ (ws : List ℕ). filter_map (event_entry p.sizes.m (record_value ws)) run.memory.trace) (sym t.words) ∙
          ap (filter_map (event_entry p.sizes.m (record_value outcome.words))) (sym t.trace);
      events = λ q. subst (λ (l : Layout). (last : CoreState) × AreStepsOf (fresh l q) (calls_by q outcome.calls) (moments_by l.m q outcome.trace) last) sizes
          (subst (λ (es : List Event). (last : CoreState) × AreStepsOf (fresh z q) (calls_by q outcome.calls) (moments_by z.m q es) last) (sym t.trace)
          (subst (λ (l : List Called). (last : CoreState) × AreStepsOf (fresh z q) (calls_by q l) (moments_by z.m q run.memory.trace) last) (sym t.calls) (events q)));
      turns = ap ports_of t.trace ∙ turns ∙ ap (λ (l : List Called). ports_in (turns_of p) (λ q. steps_by q l)) (sym t.calls);
      begins = begins;
      few = few;
      waits = λ q less. calls_wait p.sizes p.rest (turns_by q p.steps) (slice_index_or p.ports q []) (calls_by q outcome.calls) (few_by p.sizes q outcome.calls few) (firsts q) less (all_made q);
      made = all_made;
    }
