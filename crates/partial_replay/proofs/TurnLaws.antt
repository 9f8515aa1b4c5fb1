-- The turns of a replay, one after the other.
use Rattle.partial_replay.proofs.{Common.{ℕ, zero, suc, ◌≡◌, ◌≢◌, ◌+◌, ◌-◌, ◌<◌, ◌≤◌, ◌==◌, ◌++◌, Bool, true, false, if◌then◌else◌, List, [], ◌∷◌, length, slice_index_or, map, take, replicate, slice_set, Option, Some, None, slice_get, refl, sym, ◌∙◌, ap, subst, inl, inr, arith, append_assoc, length-append, MatchOption, filter, range_with_len, filter-append, sum_by-cons, sum_by-append, so_many, to_its_end, made_in, ports_in, turns_by, turns_of, left_behind, PlanView, AreAllMade, EndInStep, HaveMade, Called, take_all, append-nil, map_push, map-append, length-replicate, replicate-append-replicate, ne_eqb, cases_lt, eqb_tells, Call, Event, StepMade, Port, Run, ports_of, events_in, IsTurnReady, IsPortDone, GoesOnBy, TurnsMade, StopAtSteps, HasTurns, MakeTurns, HasMadeTurns, some_same, Memory, event_of, PortAt}, PortLaws.{get_set, get_set_other, same_at, take_next, get_is, same_eqb}}

-- a port in another state: the ports that have made all their calls have still made them where this one has
pub done_set : {plans : List (List Call)} {ports : List Port} {i : ℕ} {calls : List Call} {port : Port} (new : Port) → PortAt plans ports i calls port →
    (port.under_way ≡ None → length port.finished.items ≡ length calls → (new.under_way ≡ None) × (length new.finished.items ≡ length calls)) → (q : ℕ) → IsPortDone plans ports q →
    IsPortDone plans (slice_set ports i new) q
done_set {plans} {ports} {i} {calls} {port} new at keeps q d = elim (eqb_tells q i) [
  | inl same ↦
      let one = same_at at d.at same.1 in
      let kept = keeps (ap (λ (u : Port). u.under_way) one.1 ∙ d.idle) (ap (λ (u : Port). length u.finished.items) one.1 ∙ d.all ∙ ap length (sym one.0)) in
      let here : PortAt plans (slice_set ports i new) i calls new = record { plan = at.plan; is = get_set ports i port new at.is } in
      record { calls = calls; port = new; at = subst (λ n. PortAt plans (slice_set ports i new) n calls new) (sym same.1) here; idle = kept.0; all = kept.1 }
  | inr other ↦ record { calls = d.calls; port = d.port; at = record { plan = d.at.plan; is = get_set_other ports i q new other.1 ∙ d.at.is }; idle = d.idle; all = d.all }
]

-- a port whose call is under way has not made all its calls
pub ready_done : (plans : List (List Call)) (p : ℕ) (run : Run) → IsTurnReady p run → IsPortDone plans run.ports.items p → ⊥
ready_done plans p run ready d = let way : Some ready.way ≡ None = sym ready.under ∙ ap (λ (t : Port). t.under_way) (some_same (sym ready.is ∙ d.at.is)) ∙ d.idle in cc

-- a step is made by a port whose call is under way, and its event is the port's
pub stepped_done : {calls : List Call} {old now : Memory} {port new : Port} → port.under_way ≡ None → StepMade calls old now port new → ⊥
stepped_done none m = let way : Some (m.way) ≡ None = sym m.was ∙ none in cc

pub by_step : {calls : List Call} {old new : Run} {port next : Port} {p : ℕ} → port.number ≡ p → StepMade calls old.memory new.memory port next → GoesOnBy 1 p old new
by_step {old} {port} number m = record { events = event_of old.memory port.number m.step ∷ []; trace = m.trace_is; ports = ap (λ q. q ∷ []) number }

abbrev pub by_more : (p n k : ℕ) (old mid new : Run) → GoesOnBy n p old mid → GoesOnBy k p mid new → GoesOnBy (n + k) p old new
by_more p n k old mid new a b = record {
  events = a.events ++ b.events;
  trace = b.trace ∙ ap (λ (l : List Event). l ++ b.events) a.trace ∙ append_assoc old.memory.trace a.events b.events;
  ports = map-append (λ (e : Event). e.port) a.events b.events ∙ ap (λ (l : List ℕ). l ++ ports_of b.events) a.ports ∙ ap (λ (l : List ℕ). replicate n p ++ l) b.ports ∙
      replicate-append-replicate n k p;
}

-- the ports of a trace that goes on
pub ports_more : (n p : ℕ) (old new : Run) → GoesOnBy n p old new → ports_of new.memory.trace ≡ ports_of old.memory.trace ++ replicate n p
ports_more n p old new g = ap ports_of g.trace ∙ map-append (λ (e : Event). e.port) old.memory.trace g.events ∙ ap (λ (l : List ℕ). ports_of old.memory.trace ++ l) g.ports

-- one entry more
pub own_events : (n p : ℕ) → filter (λ r. r == p) (replicate n p) ≡ replicate n p
own_events zero p = refl
own_events (suc n) p = ap (λ (b : Bool). if b then p ∷ filter (λ r. r == p) (replicate n p) else filter (λ r. r == p) (replicate n p)) (same_eqb p p refl) ∙ ap (λ (l : List ℕ). p ∷ l) (own_events n p)

other_events : (q n p : ℕ) → (q ≡ p → n ≡ 0) → filter (λ r. r == q) (replicate n p) ≡ []
other_events q zero p same = refl
other_events q (suc n) p same =
    let away : p ≢ q = λ h. let none = same (sym h) in omega (arith, none) in
    ap (λ (b : Bool). if b then p ∷ filter (λ r. r == q) (replicate n p) else filter (λ r. r == q) (replicate n p)) (ne_eqb p q away) ∙ other_events q n p (λ h. absurd (away (sym h)))

none_more : (q n p : ℕ) (ports : List ℕ) → events_in q ports ≡ 0 → (q ≡ p → n ≡ 0) → events_in q (ports ++ replicate n p) ≡ 0
none_more q n p ports none same =
    ap length (filter-append (λ r. r == q) ports (replicate n p) ∙ ap (λ (l : List ℕ). filter (λ r. r == q) ports ++ l) (other_events q n p same) ∙ append-nil (filter (λ r. r == q) ports)) ∙ none

pub turns_grow : (D E : ℕ → Type 0) (q : ℕ) (k : Option ℕ) (m n p : ℕ) (behind : List ℕ) → ((r : ℕ) → D r → E r) → (D p → n ≡ 0) → HasTurns D q k m behind → HasTurns E q k m (behind ++ replicate n p)
turns_grow D E q None m n p behind more none h = (more q h.0, none_more q n p behind h.1 (λ e. none (subst D e h.0)))
turns_grow D E q (Some k) m n p behind more none h = (h.0, λ less. let d = h.1 less in (more q d.0, none_more q n p behind d.1 (λ e. none (subst D e d.0))))

follows_push : (D E : ℕ → Type 0) (es : List (ℕ × Option ℕ)) (ports : List ℕ) (p n : ℕ) (k : Option ℕ) → ((r : ℕ) → D r → E r) → (D p → n ≡ 0) → HasTurns E p k n [] → MakeTurns D es ports →
    MakeTurns E (es ++ (p, k) ∷ []) (ports ++ replicate n p)
follows_push D E [] ports p n k more none last f = (n, [], ap (λ (l : List ℕ). l ++ replicate n p) f ∙ sym (append-nil (replicate n p)), last, refl)
follows_push D E (e ∷ es) ports p n k more none last f = (
  f.0,
  f.1 ++ replicate n p,
  ap (λ (l : List ℕ). l ++ replicate n p) f.2 ∙ append_assoc (replicate (f.0) e.0) (f.1) (replicate n p),
  turns_grow D E e.0 e.1 (f.0) n p (f.1) more none f.3,
  follows_push D E es (f.1) p n k more none last f.4,
)

pub last_turns : (E : ℕ → Type 0) (p n : ℕ) (k : Option ℕ) → MatchOption k (E p) (λ t. (n ≤ t) × (n < t → E p)) → HasTurns E p k n []
last_turns E p n None m = (m, refl)
last_turns E p n (Some t) m = (m.0, λ less. (m.1 less, refl))

pub followed : (plans : List (List Call)) (es : List (ℕ × Option ℕ)) (p : ℕ) (k : Option ℕ) (old new : Run) →
    HasMadeTurns plans es old → TurnsMade plans p k old new → HasMadeTurns plans (es ++ (p, k) ∷ []) new
followed plans es p k old new f t =
    subst (MakeTurns (IsPortDone plans new.ports.items) (es ++ (p, k) ∷ [])) (sym (ports_more t.steps p old new t.made))
    (follows_push (IsPortDone plans old.ports.items) (IsPortDone plans new.ports.items) es (ports_of old.memory.trace) p t.steps k t.kept t.none
    (last_turns (IsPortDone plans new.ports.items) p t.steps k t.all) f)

-- one more entry, of the plan's
turns_push : (q i : ℕ) (steps : List (ℕ × ℕ)) (e : ℕ × ℕ) → slice_get steps i ≡ Some e → turns_by q (take (i + 1) steps) ≡ turns_by q (take i steps) + (if e.0 == q then e.1 else 0)
turns_push q i steps e s =
    let last = sum_by-cons (λ (d : ℕ × ℕ). if d.0 == q then d.1 else 0) e [] in
    let both = sum_by-append (λ (d : ℕ × ℕ). if d.0 == q then d.1 else 0) (take i steps) (e ∷ []) in
    let next : turns_by q (take (i + 1) steps) ≡ turns_by q (take i steps ++ e ∷ []) = ap (turns_by q) (take_next steps i e s) in
    let none : turns_by q [] ≡ 0 = refl in
    omega (arith, last, both, next, none)

pub events_push : (q n p : ℕ) (ports : List ℕ) → events_in q (ports ++ replicate n p) ≡ events_in q ports + events_in q (replicate n p)
events_push q n p ports = ap length (filter-append (λ r. r == q) ports (replicate n p)) ∙ length-append (filter (λ r. r == q) ports) (filter (λ r. r == q) (replicate n p))

pub range_push : (a n : ℕ) → range_with_len a (n + 1) ≡ range_with_len a n ++ (a + n) ∷ []
range_push a zero = let same : a ≡ a + 0 = omega arith in ap (λ k. k ∷ []) same
range_push a (suc n) =
    let e : suc n + 1 ≡ suc (n + 1) = omega arith in
    let same : a + 1 + n ≡ a + suc n = omega arith in
    ap (range_with_len a) e ∙ ap (λ (l : List ℕ). a ∷ l) (range_push (a + 1) n ∙ ap (λ k. range_with_len (a + 1) n ++ k ∷ []) same)

-- the next entry of the plan's steps
pub next_steps : (steps : List (ℕ × ℕ)) (i : ℕ) (e : ℕ × ℕ) → slice_get steps i ≡ Some e → map so_many (take (i + 1) steps) ≡ map so_many (take i steps) ++ so_many e ∷ []
next_steps steps i e s = ap (map so_many) (take_next steps i e s) ∙ map_push so_many (take i steps) e

-- all entries are past
pub all_steps : (steps : List (ℕ × ℕ)) (i : ℕ) → length steps ≤ i → map so_many (take i steps) ≡ map so_many steps ++ []
all_steps steps i past = ap (map so_many) (take_all i steps past) ∙ sym (append-nil (map so_many steps))

pub next_end : (front : List (ℕ × Option ℕ)) (n : ℕ) → front ++ map to_its_end (range_with_len 0 (n + 1)) ≡ (front ++ map to_its_end (range_with_len 0 n)) ++ to_its_end n ∷ []
next_end front n =
    let here : 0 + n ≡ n = omega arith in
    ap (λ (l : List ℕ). front ++ map to_its_end l) (range_push 0 n ∙ ap (λ k. range_with_len 0 n ++ k ∷ []) here)
    ∙ ap (λ (l : List (ℕ × Option ℕ)). front ++ l) (map_push to_its_end (range_with_len 0 n) n)
    ∙ sym (append_assoc front (map to_its_end (range_with_len 0 n)) (to_its_end n ∷ []))

-- the events in front of others
events_more : (q n p : ℕ) (behind : List ℕ) → events_in q (replicate n p ++ behind) ≡ length (filter (λ r. r == q) (replicate n p)) + events_in q behind
events_more q n p behind = ap length (filter-append (λ r. r == q) (replicate n p) behind) ∙ length-append (filter (λ r. r == q) (replicate n p)) (filter (λ r. r == q) behind)

pub events_own : (n p : ℕ) (behind : List ℕ) → events_in p (replicate n p ++ behind) ≡ n + events_in p behind
events_own n p behind = events_more p n p behind ∙ ap (λ (l : List ℕ). length l + events_in p behind) (own_events n p) ∙ ap (λ k. k + events_in p behind) (length-replicate n p)

pub events_other : (q n p : ℕ) (behind : List ℕ) → q ≢ p → events_in q (replicate n p ++ behind) ≡ events_in q behind
events_other q n p behind away = events_more q n p behind ∙ ap (λ (l : List ℕ). length l + events_in q behind) (other_events q n p (λ h. absurd (away h))) ∙ omega arith

pub made_is : (D : ℕ → Type 0) (q : ℕ) (k : Option ℕ) (n left : ℕ) (behind : List ℕ) → left ≡ n + events_in q behind → HasTurns D q k n behind → made_in k left ≡ n
made_is D q None n left behind is h = let none = h.1 in omega (arith, is, none)
made_is D q (Some k) n left behind is h = elim (cases_lt n k) [
  | inl less ↦ let none = (h.1 less).1 in omega (arith, is, none, less)
  | inr from ↦ let within = h.0 in omega (arith, is, within, from)
]

-- what each port has left after an entry is what it makes after it
pub left_same : (D : ℕ → Type 0) (e : ℕ × Option ℕ) (n : ℕ) (behind : List ℕ) (left : ℕ → ℕ) → ((q : ℕ) → left q ≡ events_in q (replicate n e.0 ++ behind)) → HasTurns D e.0 e.1 n behind →
    (made_in e.1 (left e.0) ≡ n) × ((q : ℕ) → left_behind e left q ≡ events_in q behind)
left_same D e n behind left all h =
    let p = e.0 in
    let own : left p ≡ n + events_in p behind = all p ∙ events_own n p behind in
    let made : made_in e.1 (left p) ≡ n = made_is D p e.1 n (left p) behind own h in (
      made,
      λ q. elim (eqb_tells q p) [
        | inl is ↦ ap (λ (b : Bool). if b then left q - made_in e.1 (left q) else left q) is.0 ∙ ap (λ r. left r - made_in e.1 (left r)) is.1 ∙ ap (λ k. left p - k) made ∙ omega (arith, own) ∙
            ap (λ r. events_in r behind) (sym is.1)
        | inr other ↦ ap (λ (b : Bool). if b then left q - made_in e.1 (left q) else left q) other.0 ∙ all q ∙ events_other q n p behind other.1
      ],
    )

-- the ports are the turns' ones, of each port the first ones, as many as it has events
pub follows_ports : (D : ℕ → Type 0) (es : List (ℕ × Option ℕ)) (ports : List ℕ) (left : ℕ → ℕ) → ((q : ℕ) → left q ≡ events_in q ports) → MakeTurns D es ports → ports ≡ ports_in es left
follows_ports D [] ports left same f = f
follows_ports D (e ∷ es) ports left same f =
    let n = f.0 in
    let behind = f.1 in
    let next = left_same D e n behind left (λ q. same q ∙ ap (events_in q) f.2) f.3 in
    f.2 ∙ ap (λ k. replicate k e.0 ++ behind) (sym next.0) ∙ ap (λ (l : List ℕ). replicate (made_in e.1 (left e.0)) e.0 ++ l) (follows_ports D es behind (left_behind e left) next.1 f.4)

-- without the rest a port's events are as many as its turns, or fewer, and then it has made all its calls
pub record WithinTurns (D : ℕ → Type 0) (q turns events : ℕ) : Type 0 where
  pub within : events ≤ turns
  pub done : events < turns → D q

pub within_turns : (D : ℕ → Type 0) (q : ℕ) (steps : List (ℕ × ℕ)) (ports : List ℕ) → MakeTurns D (map so_many steps) ports → WithinTurns D q (turns_by q steps) (events_in q ports)
within_turns D q [] ports f = let none : events_in q ports ≡ 0 = ap (events_in q) f in record { within = omega (arith, none); done = λ less. absurd (omega (arith, none, less)) }
within_turns D q (e ∷ steps) ports f =
    let n = f.0 in
    let p = e.0 in
    let behind = f.1 in
    let rest = within_turns D q steps behind f.4 in
    let sum : turns_by q (e ∷ steps) ≡ (if p == q then e.1 else 0) + turns_by q steps = sum_by-cons (λ (d : ℕ × ℕ). if d.0 == q then d.1 else 0) e steps in
    let few = f.3.0 in
    elim (eqb_tells p q) [
      | inl is ↦
          let turns : turns_by q (e ∷ steps) ≡ e.1 + turns_by q steps = sum ∙ ap (λ (b : Bool). (if b then e.1 else 0) + turns_by q steps) is.0 in
          let events : events_in q ports ≡ n + events_in q behind = ap (events_in q) f.2 ∙ ap (λ r. events_in r (replicate n p ++ behind)) (sym is.1) ∙ events_own n p behind ∙
          ap (λ r. n + events_in r behind) is.1 in
          record {
            within = omega (arith, turns, events, few, rest.within);
            done = λ less. elim (cases_lt n e.1) [
              | inl fewer ↦ subst D is.1 ((f.3.1 fewer).0)
              | inr all ↦ rest.done (omega (arith, turns, events, less, all, few))
            ];
          }
      | inr other ↦
          let turns : turns_by q (e ∷ steps) ≡ 0 + turns_by q steps = sum ∙ ap (λ (b : Bool). (if b then e.1 else 0) + turns_by q steps) other.0 in
          let events : events_in q ports ≡ events_in q behind = ap (events_in q) f.2 ∙ events_other q n p behind (λ h. other.1 (sym h)) in
          record { within = omega (arith, turns, events, rest.within); done = λ less. rest.done (omega (arith, turns, events, less)) }
    ]

-- with the rest each port has made all its calls
ends_done : (D : ℕ → Type 0) (a n q : ℕ) (ports : List ℕ) → a ≤ q → q < a + n → MakeTurns D (map to_its_end (range_with_len a n)) ports → D q
ends_done D a zero q ports from below f = absurd (omega (arith, from, below))
ends_done D a (suc n) q ports from below f = elim (eqb_tells a q) [
  | inl same ↦ subst D same.1 (f.3.0)
  | inr other ↦ let away = other.1 in ends_done D (a + 1) n q (f.1) (omega (arith, from, away)) (omega (arith, below)) f.4
]

pub rest_done : (D : ℕ → Type 0) (es : List (ℕ × Option ℕ)) (n q : ℕ) (ports : List ℕ) → q < n → MakeTurns D (es ++ map to_its_end (range_with_len 0 n)) ports → D q
rest_done D [] n q ports below f = ends_done D 0 n q ports (omega arith) (omega (arith, below)) f
rest_done D (e ∷ es) n q ports below f = rest_done D es n q (f.1) below f.4

pub ending_next : (plans : List (List Call)) (steps : List (ℕ × ℕ)) (i : ℕ) (old new : Run) → i < length steps → HasMadeTurns plans (map so_many (take i steps)) old → StopAtSteps (take i steps) old →
    TurnsMade plans (slice_index_or steps i (0, 0)).0 (Some (slice_index_or steps i (0, 0)).1) old new → StopAtSteps (take (i + 1) steps) new
ending_next plans steps i old new below f ends t q same =
    let e = slice_index_or steps i (0, 0) in
    let p = e.0 in
    let n = t.steps in
    let ports = ports_of old.memory.trace in
    let turns = turns_push q i steps e (get_is steps i (0, 0) below) in
    let events : events_in q (ports_of new.memory.trace) ≡ events_in q ports + events_in q (replicate n p) = ap (events_in q) (ports_more n p old new t.made) ∙ events_push q n p ports in
    let within = (within_turns (IsPortDone plans old.ports.items) q (take i steps) ports f).within in
    let few = t.all.0 in
    elim (eqb_tells p q) [
      | inl is ↦
          let own : events_in q (replicate n p) ≡ n = ap (λ r. events_in r (replicate n p)) (sym is.1) ∙ ap length (own_events n p) ∙ length-replicate n p in
          let more : (if p == q then e.1 else 0) ≡ e.1 = ap (λ (b : Bool). if b then e.1 else 0) is.0 in
          let before : events_in q ports ≡ turns_by q (take i steps) = omega (arith, turns, events, within, few, own, more, same) in
          let all : e.1 ≡ n = omega (arith, turns, events, within, few, own, more, same) in
          t.ending q (λ h. ap Some all) (ends q before)
      | inr other ↦
          let none : events_in q (replicate n p) ≡ 0 = ap length (other_events q n p (λ h. absurd (other.1 (sym h)))) in
          let more : (if p == q then e.1 else 0) ≡ 0 = ap (λ (b : Bool). if b then e.1 else 0) other.0 in
          let before : events_in q ports ≡ turns_by q (take i steps) = omega (arith, turns, events, none, more, same) in
          t.ending q (λ h. absurd (other.1 (sym h))) (ends q before)
    ]

-- what the turns make of each port
pub turns_told : (D : ℕ → Type 0) (p : PlanView) (ports : List ℕ) (q : ℕ) (calls : List Called) → (D q → AreAllMade (slice_index_or p.ports q []) calls) →
    (length p.ports ≤ q → AreAllMade (slice_index_or p.ports q []) calls) → (p.rest ≡ false → events_in q ports ≡ turns_by q p.steps → EndInStep calls) → MakeTurns D (turns_of p) ports →
    HaveMade p.rest (turns_by q p.steps) (events_in q ports) (slice_index_or p.ports q []) calls
turns_told D p ports q calls done past ends f = at p.rest refl f
  where
    at : (rest : Bool) → p.rest ≡ rest → MakeTurns D (map so_many p.steps ++ (if rest then map to_its_end (range_with_len 0 (length p.ports)) else [])) ports → HaveMade rest (turns_by q p.steps)
        (events_in q ports) (slice_index_or p.ports q []) calls
    at true is g = elim (cases_lt q (length p.ports)) [
      | inl below ↦ done (rest_done D (map so_many p.steps) (length p.ports) q ports below g)
      | inr beyond ↦ past beyond
    ]
    at false is g =
        let w = within_turns D q p.steps ports (subst (λ (es : List (ℕ × Option ℕ)). MakeTurns D es ports) (append-nil (map so_many p.steps)) g) in
        (w.within, ends is, λ less. done (w.done less))
