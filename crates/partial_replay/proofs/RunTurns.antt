-- The turns of a replay, and the calls that the ports begin in them.
use Rattle.partial_replay.proofs.{Common.{ℕ, suc, ◌≡◌, ◌+◌, ◌-◌, ◌<◌, ◌≤◌, ◌==◌, ◌++◌, Bool, true, false, if◌then◌else◌, List, [], ◌∷◌, length, map, slice_set, replicate, Option, Some, None, MatchOption, refl, sym, ◌∙◌, ap, subst, inl, inr, arith, append_assoc, append-nil, length-map, length-replicate, map-append, eqb_tells, Call, Event, Layout, Port, Run, Moment, moments_from, last_behind, ports_of, events_in, idle_in, lengths_of, lengths_in, HasTurned, StepMade, IsTurnReady, ChangesPortsOnly, IsSameOpening, IsPortDone, StayDone, StayStopped, StayStoppedBut, StayStoppedWith, GoesOnBy, BeganInTurns, own_turns, BeginsIn, StepsIn, GoesOnIn, moments_behind, TurnMade, StepsMade, TurnsMade, MakeTurns, HasMadeTurns, lengths_so_far, HaveBegun, Memory, state_of, PortAt, IsRunOf, Opening, PlanView, IsBetweenTurns, HasReplayed}, PortLaws.{at_set, same_at}, PortSteps.log_long, TurnLaws.{ready_done, by_more, followed, last_turns}, TurnLengths.{ports_at, befores_of, ports_moments, moments-append, behind-append, own_is, own_other, own_more, lengths_push}, PortTurns.{turns_idle, turn_steps}}

-- how long the history is after further events
long_behind : (plans : List (List Call)) (p n : ℕ) (old new : Run) → IsRunOf plans (state_of old) → IsRunOf plans (state_of new) → IsSameOpening old new → (g : GoesOnBy n p old new) →
    length new.memory.history.items ≡ last_behind (length old.memory.history.items) (moments_behind old g.events)
long_behind plans p n old new w v same g =
    let m = old.memory.sizes.m in
    let front = moments_from m 0 old.memory.trace in
    let before : length old.memory.history.items ≡ last_behind 0 front = log_long m old.memory.trace old.memory.history.items w.entries in
    log_long new.memory.sizes.m new.memory.trace new.memory.history.items v.entries
    ∙ ap (λ (z : Layout). last_behind 0 (moments_from z.m 0 new.memory.trace)) same.sizes
    ∙ ap (λ (es : List Event). last_behind 0 (moments_from m 0 es)) g.trace
    ∙ ap (last_behind 0) (moments-append m 0 old.memory.trace g.events)
    ∙ behind-append 0 front (moments_from m (last_behind 0 front) g.events)
    ∙ ap (λ k. last_behind k (moments_from m k g.events)) (sym before)

-- one event in a turn
one_moment : (m n p : ℕ) (es : List Event) → ports_of es ≡ replicate 1 p → befores_of (moments_from m n es) ≡ n ∷ []
one_moment m n p [] is = let bad : [] ≡ p ∷ [] = is in cc
one_moment m n p (e ∷ []) is = refl
one_moment m n p (e ∷ f ∷ es) is = let bad : e.port ∷ f.port ∷ ports_of es ≡ p ∷ [] = is in cc

no_events : (p : ℕ) (es : List Event) → ports_of es ≡ replicate 0 p → es ≡ []
no_events p [] is = refl
no_events p (e ∷ es) is = let bad : e.port ∷ ports_of es ≡ [] = is in cc

-- turns of another port, and turns of the same
begun_same : (plans : List (List Call)) (q idle : ℕ) (ls ks : List ℕ) (ports : List Port) → ls ≡ ks → BeganInTurns idle plans q ls ports → BeganInTurns idle plans q ks ports
begun_same plans q idle ls ks ports same w = subst (λ (l : List ℕ). BeganInTurns idle plans q l ports) same w

goes_on_more : (plans : List (List Call)) (p : ℕ) (ls ks : List ℕ) (old mid new : Run) → GoesOnIn plans p ls old mid → GoesOnIn plans p ks mid new → GoesOnIn plans p (ls ++ ks) old new
goes_on_more plans p ls ks old mid new a b q front w = begun_same plans q 0 ((front ++ own_turns q p ls) ++ own_turns q p ks) (front ++ own_turns q p (ls ++ ks)) new.ports.items
    (own_more q p front ls ks) (b q (front ++ own_turns q p ls) (a q front w))

-- a port that has made all its calls, wherever it is found
done_at : {plans : List (List Call)} {ports : List Port} {p q : ℕ} {calls : List Call} {port : Port} → IsPortDone plans ports p → PortAt plans ports q calls port → q ≡ p →
    length port.finished.items ≡ length calls
done_at d at same = let one = same_at d.at at same in ap (λ (u : Port). length u.finished.items) (sym one.1) ∙ d.all ∙ ap length one.0

-- a port reaches its end, and any turns after that change nothing
goes_on_idle : (plans : List (List Call)) (p : ℕ) (ls more : List ℕ) (old new : Run) → IsPortDone plans new.ports.items p → GoesOnIn plans p ls old new → GoesOnIn plans p (ls ++ more) old new
goes_on_idle plans p ls more old new d g q front w calls port at = elim (eqb_tells q p) [
  | inl is ↦
      subst (λ (l : List ℕ). HasTurned 0 calls l port) (own_more q p front ls more)
      (subst (λ (l : List ℕ). HasTurned 0 calls ((front ++ own_turns q p ls) ++ l) port) (sym (own_is q p more is.1))
      (turns_idle calls 0 (front ++ own_turns q p ls) more port (done_at d at is.1) (g q front w calls port at)))
  | inr other ↦
      let none : own_turns q p (ls ++ more) ≡ own_turns q p ls = own_other q p (ls ++ more) other.1 ∙ sym (own_other q p ls other.1) in
      subst (λ (l : List ℕ). HasTurned 0 calls (front ++ l) port) (sym none) (g q front w calls port at)
]

-- the next calls of a port in its turn
pub begins_at : {plans : List (List Call)} {ports : List Port} {p : ℕ} {calls : List Call} {port : Port} (seen : ℕ) (new : Port) → PortAt plans ports p calls port →
    ((lengths : List ℕ) → HasTurned 0 calls lengths port → HasTurned 1 calls (lengths ++ seen ∷ []) new) → BeginsIn plans p seen ports (slice_set ports p new)
begins_at {calls} {port} seen new at keeps q lengths w = (
  λ other. at_set new at q (λ ds u. HasTurned 0 ds lengths u) (λ same. absurd (other same)) (λ away. w),
  λ same. at_set new at q (λ ds u. HasTurned 1 ds (lengths ++ seen ∷ []) u) (λ is here. keeps lengths (w calls port here)) (λ other. absurd (other same)),
)

-- its step in that turn
pub steps_at : {plans : List (List Call)} {ports : List Port} {p : ℕ} {calls : List Call} {old now : Memory} {port : Port} (new : Port) → PortAt plans ports p calls port →
    length port.finished.items < length calls → StepMade calls old now port new → StepsIn plans p ports (slice_set ports p new)
steps_at {calls} {port} new at less m q lengths others own = at_set new at q (λ ds u. HasTurned 0 ds lengths u) (λ same here. turn_steps lengths less m (own same calls port here)) others

-- a turn in which a port has made all its calls
pub turn_done : (plans : List (List Call)) (p : ℕ) (old new : Run) → ChangesPortsOnly old new → BeginsIn plans p (length old.memory.history.items) old.ports.items new.ports.items →
    StayDone plans old new → IsPortDone plans new.ports.items p → StayStoppedBut p old new → TurnMade plans p old false new
turn_done plans p old new same begins kept done ending = record {
  made = record { events = []; trace = ap (λ (r : Memory). r.trace) same.memory ∙ sym (append-nil old.memory.trace); ports = refl };
  begun = λ q front w calls port at. elim (eqb_tells q p) [
    | inl is ↦
        let here = turns_idle calls 1 (front ++ length old.memory.history.items ∷ []) [] port (done_at done at is.1) ((begins q front w).1 is.1 calls port at) in
        subst (λ (l : List ℕ). HasTurned 0 calls (front ++ l) port) (sym (own_is q p (length old.memory.history.items ∷ []) is.1))
        (subst (λ (l : List ℕ). HasTurned 0 calls l port) (append-nil (front ++ length old.memory.history.items ∷ [])) here)
    | inr other ↦
        subst (λ (l : List ℕ). HasTurned 0 calls (front ++ l) port) (sym (own_other q p (length old.memory.history.items ∷ []) other.1))
        (subst (λ (l : List ℕ). HasTurned 0 calls l port) (sym (append-nil front)) ((begins q front w).0 other.1 calls port at))
  ];
  done = done;
  kept = kept;
  ending = ending;
}

-- a turn in which it makes a step
pub turn_stepped : (plans : List (List Call)) (p : ℕ) (old mid new : Run) → ChangesPortsOnly old mid → BeginsIn plans p (length old.memory.history.items) old.ports.items mid.ports.items →
    StayDone plans old mid → IsTurnReady p mid →
    GoesOnBy 1 p mid new → StepsIn plans p mid.ports.items new.ports.items → StayDone plans mid new → StayStoppedBut p old mid → StayStoppedWith p mid new → TurnMade plans p old true new
turn_stepped plans p old mid new same begins kept ready made steps kept' but with' =
    let n = length old.memory.history.items in
    record {
      made = record { events = made.events; trace = made.trace ∙ ap (λ (r : Memory). r.trace ++ made.events) same.memory; ports = made.ports };
      begun = λ q front w. steps q (front ++ own_turns q p (n ∷ []))
          (λ other. begun_same plans q 0 front (front ++ own_turns q p (n ∷ [])) mid.ports.items (sym (ap (λ (l : List ℕ). front ++ l) (own_other q p (n ∷ []) other) ∙ append-nil front))
          ((begins q front w).0 other))
          (λ is. begun_same plans q 1 (front ++ n ∷ []) (front ++ own_turns q p (n ∷ [])) mid.ports.items (ap (λ (l : List ℕ). front ++ l) (sym (own_is q p (n ∷ []) is))) ((begins q front w).1 is));
      done = λ d. ready_done plans p mid ready (kept p d);
      kept = λ q d. kept' q (kept q d);
      ending = λ q e. with' q (λ other. but q other e);
    }

pub no_steps : (plans : List (List Call)) (p : ℕ) (run : Run) → StepsMade plans p 0 run run
no_steps plans p run = record {
  made = record { events = []; trace = sym (append-nil run.memory.trace); ports = refl };
  begun = λ q front w. begun_same plans q 0 front (front ++ own_turns q p []) run.ports.items (sym (ap (λ (l : List ℕ). front ++ l) (none (p == q)) ∙ append-nil front)) w;
  none = λ d. refl;
  kept = λ q d. d;
}
  where
    none : (b : Bool) → (if b then [] else []) ≡ map (λ (k : ℕ). k) []
    none b = elim b as (λ c. (if c then [] else []) ≡ map (λ (k : ℕ). k) []) [ true ↦ refl | false ↦ refl ]

-- one step more
pub step_more : (plans : List (List Call)) (p n : ℕ) (old mid new : Run) → IsRunOf plans (state_of old) → IsRunOf plans (state_of mid) → IsSameOpening old mid → StepsMade plans p n old mid →
    TurnMade plans p mid true new →
    StepsMade plans p (n + 1) old new
step_more plans p n old mid new w v same s t =
    let m = old.memory.sizes.m in
    let first = length old.memory.history.items in
    let own = moments_behind old (s.made).events in
    let long = long_behind plans p n old mid w v same s.made in
    let all : befores_of own ++ length mid.memory.history.items ∷ [] ≡ befores_of (moments_behind old ((s.made).events ++ (t.made).events)) =
    ap (λ k. befores_of own ++ k ∷ []) long
    ∙ ap (λ (l : List ℕ). befores_of own ++ l) (sym (one_moment m (last_behind first own) p (t.made).events (t.made).ports))
    ∙ sym (map-append (λ (x : Moment). x.before) own (moments_from m (last_behind first own) (t.made).events))
    ∙ ap befores_of (sym (moments-append m first (s.made).events (t.made).events)) in
    record {
      made = by_more p n 1 old mid new s.made t.made;
      begun = subst (λ (l : List ℕ). GoesOnIn plans p l old new) all (goes_on_more plans p (befores_of own) (length mid.memory.history.items ∷ []) old mid new s.begun t.begun);
      none = λ d. absurd (t.done (s.kept p d));
      kept = λ q d. t.kept q (s.kept q d);
    }

-- so many turns, with a step in each
pub turns_all : (plans : List (List Call)) (p n : ℕ) (old new : Run) → StepsMade plans p n old new → StayStopped old new → TurnsMade plans p (Some n) old new
turns_all plans p n old new s ending =
    let own = moments_behind old (s.made).events in
    let many : length own ≡ n = sym (length-map own (λ (x : Moment). x.event.port)) ∙ ap length (ports_moments old.memory.sizes.m (length old.memory.history.items) (s.made).events ∙ (s.made).ports) ∙
    length-replicate n p in
    let none : idle_in (Some n) (length own) ≡ 0 = omega (arith, many) in
    let whole : befores_of own ≡ lengths_of (Some n) (length old.memory.history.items) own =
    sym (ap (λ k. befores_of own ++ replicate k (last_behind (length old.memory.history.items) own)) none ∙ append-nil (befores_of own)) in
    record {
      steps = n;
      made = s.made;
      begun = subst (λ (l : List ℕ). GoesOnIn plans p l old new) whole s.begun;
      none = s.none;
      kept = s.kept;
      all = (omega arith, λ less. absurd (omega (arith, less)));
      ending = λ q all e. ending q e;
    }

-- turns of which the last makes no step
idle_more : (turns : Option ℕ) (n : ℕ) → MatchOption turns (Unit {0}) (λ k. n < k) → (i : ℕ) × (idle_in turns n ≡ suc i)
idle_more None n w = (0, refl)
idle_more (Some k) n w = (k - n - 1, omega (arith, w))

idle_all : (turns : Option ℕ) (n : ℕ) (D : Type 0) → D → MatchOption turns (Unit {0}) (λ k. n < k) → MatchOption turns D (λ k. (n ≤ k) × (n < k → D))
idle_all None n D d w = d
idle_all (Some k) n D d w = (omega (arith, w), λ _. d)

idle_fewer : (turns : Option ℕ) (n : ℕ) → MatchOption turns (Unit {0}) (λ k. n < k) → turns ≡ Some n → ⊥
idle_fewer None n w is = let bad : None ≡ Some n = is in cc
idle_fewer (Some k) n w is = let same : k ≡ n = cc in omega (arith, same, w)

pub turns_end : (plans : List (List Call)) (p n : ℕ) (turns : Option ℕ) (old mid new : Run) → IsRunOf plans (state_of old) → IsRunOf plans (state_of mid) → IsSameOpening old mid →
    StepsMade plans p n old mid → StayStopped old mid → TurnMade plans p mid false new → MatchOption turns (Unit {0}) (λ k. n < k) → TurnsMade plans p turns old new
turns_end plans p n turns old mid new w v same s ending t fewer =
    let first = length old.memory.history.items in
    let own = moments_behind old (s.made).events in
    let none = no_events p (t.made).events (t.made).ports in
    let long = long_behind plans p n old mid w v same s.made in
    let many : length own ≡ n = sym (length-map own (λ (x : Moment). x.event.port)) ∙ ap length (ports_moments old.memory.sizes.m first (s.made).events ∙ (s.made).ports) ∙ length-replicate n p in
    let more = idle_more turns n fewer in
    let idle : idle_in turns (length own) ≡ suc (more.0) = ap (idle_in turns) many ∙ more.1 in
    let here = goes_on_more plans p (befores_of own) (length mid.memory.history.items ∷ []) old mid new s.begun t.begun in
    let whole : (befores_of own ++ length mid.memory.history.items ∷ []) ++ replicate (more.0) (last_behind first own) ≡ lengths_of turns first own =
    append_assoc (befores_of own) (length mid.memory.history.items ∷ []) (replicate (more.0) (last_behind first own))
    ∙ ap (λ k. befores_of own ++ k ∷ replicate (more.0) (last_behind first own)) long
    ∙ ap (λ k. befores_of own ++ replicate k (last_behind first own)) (sym idle) in
    record {
      steps = n;
      made = record {
        events = (s.made).events;
        trace = (t.made).trace ∙ ap (λ (l : List Event). mid.memory.trace ++ l) none ∙ append-nil mid.memory.trace ∙ (s.made).trace;
        ports = (s.made).ports;
      };
      begun = subst (λ (l : List ℕ). GoesOnIn plans p l old new) whole
          (goes_on_idle plans p (befores_of own ++ length mid.memory.history.items ∷ []) (replicate (more.0) (last_behind first own)) old new t.done here);
      none = s.none;
      kept = λ q d. t.kept q (s.kept q d);
      all = idle_all turns n (IsPortDone plans new.ports.items p) t.done fewer;
      ending = λ q all e. t.ending q (λ is. idle_fewer turns n fewer (all is)) (ending q e);
    }

-- one entry more: the ports have begun their calls in the turns so far
begun_next : (plans : List (List Call)) (es : List (ℕ × Option ℕ)) (p : ℕ) (k : Option ℕ) (old new : Run) → IsRunOf plans (state_of old) → IsSameOpening old new → HasMadeTurns plans es old →
    HaveBegun plans es old → TurnsMade plans p k old new → HaveBegun plans (es ++ (p, k) ∷ []) new
begun_next plans es p k old new w same f begun t q =
    let m = old.memory.sizes.m in
    let xs = moments_from m 0 old.memory.trace in
    let own = moments_behind old (t.made).events in
    let D = IsPortDone plans old.ports.items in
    let E = IsPortDone plans new.ports.items in
    let before : length old.memory.history.items ≡ last_behind 0 xs = log_long m old.memory.trace old.memory.history.items w.entries in
    let front_ports : ports_at xs ≡ ports_of old.memory.trace = ports_moments m 0 old.memory.trace in
    let own_ports : ports_at own ≡ replicate t.steps p = ports_moments m (length old.memory.history.items) (t.made).events ∙ (t.made).ports in
    let moments : moments_from new.memory.sizes.m 0 new.memory.trace ≡ xs ++ own =
    ap (λ (z : Layout). moments_from z.m 0 new.memory.trace) same.sizes ∙ ap (moments_from m 0) (t.made).trace ∙ moments-append m 0 old.memory.trace
    (t.made).events ∙ ap (λ n. xs ++ moments_from m n (t.made).events) (sym before) in
    let all_ports : ports_at (xs ++ own) ≡ ports_of new.memory.trace = ap ports_at (sym moments) ∙ ports_moments new.memory.sizes.m 0 new.memory.trace in
    let left : ℕ → ℕ = λ r. events_in r (ports_of old.memory.trace) in
    let left' : ℕ → ℕ = λ r. events_in r (ports_of new.memory.trace) in
    let pushed : lengths_in q (es ++ (p, k) ∷ []) left' 0 (xs ++ own) ≡ lengths_in q es left 0 xs ++ own_turns q p (lengths_of k (last_behind 0 xs) own) =
    lengths_push D E es xs own 0 p t.steps k q left left' (λ r. ap (events_in r) (sym front_ports)) (λ r. ap (events_in r) (sym all_ports)) own_ports t.none (last_turns E p t.steps k t.all)
    (subst (MakeTurns D es) (sym front_ports) f) in
    let here : lengths_so_far q es old ++ own_turns q p (lengths_of k (length old.memory.history.items) own) ≡ lengths_so_far q (es ++ (p, k) ∷ []) new =
    ap (λ n. lengths_so_far q es old ++ own_turns q p (lengths_of k n own)) before ∙ sym pushed ∙ ap (lengths_in q (es ++ (p, k) ∷ []) left' 0) (sym moments) in
    begun_same plans q 0 (lengths_so_far q es old ++ own_turns q p (lengths_of k (length old.memory.history.items) own)) (lengths_so_far q (es ++ (p, k) ∷ []) new) new.ports.items here
    (t.begun q (lengths_so_far q es old) (begun q))

pub next_turns : {plan : PlanView} {plans : List (List Call)} {es : List (ℕ × Option ℕ)} {old new : Run} (p : ℕ) (k : Option ℕ) → HasReplayed plan plans es old → IsBetweenTurns plans new →
    IsSameOpening old new → TurnsMade plans p k old new → HasReplayed plan plans (es ++ (p, k) ∷ []) new
next_turns {plans} {es} {old} {new} p k r between same t = record {
  between = between;
  sizes = same.sizes ∙ r.sizes;
  values = ap (λ (o : Opening). o.values) same.opening ∙ r.values;
  made = followed plans es p k old new r.made t;
  begun = begun_next plans es p k old new r.between.replay.state same r.made r.begun t;
}
