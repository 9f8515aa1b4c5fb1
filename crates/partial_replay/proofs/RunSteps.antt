-- A turn of a port among the others.
use Rattle.partial_replay.proofs.{Common.{ℕ, zero, suc, ◌≡◌, ◌+◌, ◌-◌, ◌*◌, ◌<◌, ◌≤◌, ◌==◌, ◌++◌, Bool, true, false, if◌then◌else◌, not, List, [], ◌∷◌, length, slice_index_or, slice_index, slice_set, Option, Some, None, MatchOption, MatchBool, nat_lt, ◌^◌, slice_get, Result, Ok, Err, OnOk, refl, sym, ◌∙◌, ap, subst, arith, length-append, get_or-set_other, mul-le-mul, mul-suc, option_map_or, is_some, IsSome, false≢true, ltb-true, append-nil, length_push, Applied, Opening, Call, Called, LegalNotes-grows, AllByRecursion-get, AllByRecursion-push, Step, Event, Layout, IsLayout, Leads, answer_of, words_after, record_value, view_word, Idle, CoreState, reply_of, steps_left, most_of_update, most_steps, Part, port_of, IsBetween, answer_for, IsServed, lawful_machines_are_ready, lawful_records_are_within, Port, UnderWay, KeepsMade, IsExchangeWithin, AreWithin, notes_in, IsCallUnderWay, PortFits, core_behind, entry_at, one_step_more, ended_call, CallGoesOn, Ends, StepMade, MayStep, KeepsFit, AreStartedBut, ArePlans, PortsFit, IsRunOf, left_for, port_left, port_left_at, AllByRecursion, place_below, value_word, Load, Store, Exchange, Add, Lawful, added_by, PublishesWithin, some_same, step_of, Memory, Run, event_of, ReplayState, state_of, PortAt, IsTurnReady, no_ports, first_port}, PortLaws.{least_grow, finished_grows, get_is, between_of, under_way, step_cases}, RunLaws.{PartAt, among, due_step, lawful_within, leads, leads_push, step_fits, end_may}, PortSteps.{ports_step, ports_begin, log_long}, Traces.entries_push}
use Rattle.std.proofs.Math.Nat.{mul-le-mul_left}

-- another port's history grows
way_grows : (log es : List Applied) (calls : List Call) (x : Part) (core : CoreState) (done : List Called) (way : Option UnderWay) → MatchOption way (IsBetween x core)
    (IsCallUnderWay (length log) calls x core done) → MatchOption way (IsBetween x core) (IsCallUnderWay (length (log ++ es)) calls x core done)
way_grows log es calls x core done None w = w
way_grows log es calls x core done (Some way) w =
    record {
      call = w.call;
      next = w.next;
      begun = w.begun;
      behind = w.behind;
      within = omega (arith, length-append log es, w.within);
      first = w.first;
      machine = w.machine;
      due = w.due;
      steps = w.steps;
    }

fits_grows : {o : Opening} {log : List Applied} {calls : List Call} {p : ℕ} {x : Part} {port : Port} (es : List Applied) → PortFits o log calls p x port → PortFits o (log ++ es) calls p x port
fits_grows {o} {log} {calls} {p} {x} {port} es w =
    record {
      number = w.number;
      part = w.part;
      sizes = w.sizes;
      finished = finished_grows (length log) (length (log ++ es)) p 0 0 port.finished.items (omega (arith, length-append log es)) w.finished;
      legal = LegalNotes-grows o log es p 0 (notes_in port.finished.items) w.legal;
      shown = w.shown;
      written = w.written;
      made = w.made;
      few = w.few;
      bounded = w.bounded;
      least = least_grow o log es p 0 0 port.finished.items w.finished w.least;
      way = way_grows log es calls x port.core port.finished.items port.under_way w.way;
    }

ports_grow : {o : Opening} {log : List Applied} {q : ℕ} {plans : List (List Call)} {parts : List Part} {ports : List Port} (es : List Applied) → PortsFit o log q plans parts ports →
    PortsFit o (log ++ es) q plans parts ports
ports_grow es no_ports = no_ports
ports_grow es (first_port f rest) = first_port (fits_grows es f) (ports_grow es rest)

-- one port among the others, and another state of it in its place
record AtPort (o : Opening) (log : List Applied) (q : ℕ) (plans : List (List Call)) (parts : List Part) (ports : List Port) (i p : ℕ) (calls : List Call) (port : Port) : Type 0 where
  before : List Part
  x : Part
  after : List Part
  is : parts ≡ before ++ x ∷ after
  fits : PortFits o log calls p x port
  replace : (es : List Applied) (y : Part) (new : Port) → PortFits o (log ++ es) calls p y new → PortsFit o (log ++ es) q plans (before ++ y ∷ after) (slice_set ports i new)

at_port : {o : Opening} {log : List Applied} {q : ℕ} {plans : List (List Call)} {parts : List Part} {ports : List Port} (i p : ℕ) {calls : List Call} {port : Port} →
    PortsFit o log q plans parts ports → p ≡ q + i → slice_get plans i ≡ Some calls → slice_get ports i ≡ Some port → AtPort o log q plans parts ports i p calls port
at_port i p {calls} no_ports n c t = let bad : None ≡ Some calls = c in cc
at_port {o} {log} {q} zero p {calls} {port} (first_port {calls = d} {x = x} {parts = parts} {port = u} f rest) n c t =
    let here : q ≡ p = omega (arith, n) in
    record {
      before = [];
      x = x;
      after = parts;
      is = refl;
      fits = subst (λ k. PortFits o log calls k x port) here
          (subst (λ (v : Port). PortFits o log calls q x v) (some_same t) (subst (λ (e : List Call). PortFits o log e q x u) (some_same c) f));
      replace = λ es y new g. first_port
          (subst (λ (e : List Call). PortFits o (log ++ es) e q y new) (sym (some_same c)) (subst (λ k. PortFits o (log ++ es) calls k y new) (sym here) g)) (ports_grow es rest);
    }
at_port (suc i) p (first_port {x = x} f rest) n c t =
    let at = at_port i p rest (omega (arith, n)) c t in
    record {
      before = x ∷ at.before;
      x = at.x;
      after = at.after;
      is = ap (λ (l : List Part). x ∷ l) at.is;
      fits = at.fits;
      replace = λ es y new g. first_port (fits_grows es f) (at.replace es y new g);
    }

-- a port of a run, with its part
pub part_at : {plans : List (List Call)} {s : ReplayState} {p : ℕ} {calls : List Call} {port : Port} → IsRunOf plans s → PortAt plans s.ports p calls port → PartAt plans s p calls port
part_at {plans} {s} {p} {calls} {port} w here =
    let at = at_port p p w.fit (omega arith) here.plan here.is in
    record {
      before = at.before;
      x = at.x;
      after = at.after;
      lawful = subst (λ (l : List Part). Lawful s.sizes s.opening s.memory.words l s.memory.history.items) at.is w.lawful;
      fits = at.fits;
      replace = at.replace;
    }

-- a call begins, or is refused at once: the words and the history stay
pub begin_keeps : {plans : List (List Call)} {s : ReplayState} {p : ℕ} {calls : List Call} {port : Port} (new : Port) → IsRunOf plans s → PortAt plans s.ports p calls port →
    KeepsFit calls (length s.memory.history.items) port new → KeepsMade calls (length s.memory.history.items) port new → IsRunOf plans (record s { ports = slice_set s.ports p new })
begin_keeps {plans} {s} {p} {calls} {port} new w here keeps keeps_made =
    let o = s.opening in
    let log = s.memory.history.items in
    let at = at_port p p w.fit (omega arith) here.plan here.is in
    let grown = at.replace [] at.x new (subst (λ (l : List Applied). PortFits o l calls p at.x new) (sym (append-nil log)) (keeps o log p at.x refl at.fits)) in
    record {
      parts = w.parts;
      opened = w.opened;
      opens = w.opens;
      lawful = w.lawful;
      leads = w.leads;
      entries = w.entries;
      senders = w.senders;
      made = ports_begin s w.made here keeps_made;
      fit = subst (λ (l : List Part). PortsFit o log 0 plans l (slice_set s.ports p new)) (sym at.is)
          (subst (λ (l : List Applied). PortsFit o l 0 plans (at.before ++ at.x ∷ at.after) (slice_set s.ports p new)) (append-nil log) grown);
    }

-- what a step adds to the history, as the words after it show, and that the record of an exchange lies within the words
pub record StepAdds (z : Layout) (m : ℕ) (words : List ℕ) (step : Step) (port : ℕ) : Type 0 where
  pub entry : entry_at m (words_after words step) port step (answer_of words step) ≡ added_by z port words step
  pub within : IsExchangeWithin m words step

-- a record that a won exchange publishes stands after the component words, so the exchange leaves its value
adds : (z : Layout) (words : List ℕ) (port : ℕ) (step : Step) → PublishesWithin z words step → ((e : Applied) → added_by z port words step ≡ e ∷ [] → z.m ≤ e.stamp) → StepAdds z z.m words step port
adds z words port (Load w) within above = record { entry = refl; within = tt }
adds z words port (Store w v) within above = record { entry = refl; within = tt }
adds z words port (Add w k) within above = record { entry = refl; within = tt }
adds z words port (Exchange w old at) within above = record { entry = by (nat_lt w z.m) refl (slice_index words w == old) refl; within = λ below. let inside = within below in omega (arith, inside) }
  where
    -- what the exchange adds, whether its word is one of a component, and whether it is won
    gained : Bool → Bool → ℕ → List Applied
    gained inside won value = if inside then (if won then record { port = port; component = w; value = value; stamp = at } ∷ [] else []) else []

    by : (a : Bool) → nat_lt w z.m ≡ a → (b : Bool) → (slice_index words w == old) ≡ b →
        gained (nat_lt w z.m) (slice_index words w == old) (record_value (words_after words (Exchange w old at)) at)
        ≡ gained (nat_lt w z.m) (slice_index words w == old) (record_value words at)
    by false ea b eb = ap (λ c. gained c (slice_index words w == old) (record_value (words_after words (Exchange w old at)) at)) ea
        ∙ sym (ap (λ c. gained c (slice_index words w == old) (record_value words at)) ea)
    by true ea false eb = ap (λ c. gained (nat_lt w z.m) c (record_value (words_after words (Exchange w old at)) at)) eb
        ∙ sym (ap (λ c. gained (nat_lt w z.m) c (record_value words at)) eb)
    by true ea true eb =
        let one : added_by z port words (Exchange w old at) ≡ record { port = port; component = w; value = record_value words at; stamp = at } ∷ [] =
        ap (λ c. gained c (slice_index words w == old) (record_value words at)) ea ∙ ap (λ c. gained true c (record_value words at)) eb in
        let behind = above (record { port = port; component = w; value = record_value words at; stamp = at }) one in
        let below = ltb-true w z.m ea in
        let same : record_value (words_after words (Exchange w old at)) at ≡ record_value words at =
        get_or-set_other words w (value_word at) (if slice_index words w == old then at else slice_index words w) 0
        (λ h. omega (arith, behind, below, h)) in
        ap (gained (nat_lt w z.m) (slice_index words w == old)) same

-- the last entry of a history
last_of : {A : Type 0} (P : A → Type 0) (xs : List A) (x : A) → AllByRecursion P (xs ++ x ∷ []) → P x
last_of P [] x all = all.0
last_of P (y ∷ ys) x all = last_of P ys x all.1

-- the same of a port's due step
due_adds : {plans : List (List Call)} {s : ReplayState} {p : ℕ} {calls : List Call} {port : Port} {way : UnderWay} (at : PartAt plans s p calls port) → port.under_way ≡ Some way → (step : Step) →
    step_of port.core ≡ Some step → StepAdds s.sizes port.core.sizes.m s.memory.words step port.number
due_adds {s} {port} at was step due =
    let z = s.sizes in
    let words = s.memory.words in
    let log = s.memory.history.items in
    let l = leads at was step due in
    let own : StepAdds z z.m words step (port_of at.x) = adds z words (port_of at.x) step l.publishes (λ e is.
    let records = lawful_records_are_within z s.opening (words_after words step) (at.before ++ l.y ∷ at.after) (log ++ added_by z (port_of at.x) words step) l.lawful in
    let IsAfterAnswer : Applied → Type 0 = λ e. (z.m ≤ e.stamp) × (view_word e.stamp < length (words_after words step)) in
    (last_of IsAfterAnswer log e (subst (λ (es : List Applied). AllByRecursion IsAfterAnswer (log ++ es)) is records.entries)).0) in
    subst (λ (n : ℕ). StepAdds z n words step port.number) (ap (λ (y : Layout). y.m) (sym l.tells.sizes)) (subst (StepAdds z z.m words step) (at.fits.part ∙ sym at.fits.number) own)

-- fewer positions, fewer steps: a scan makes no more than an update
most_of_scan : (z : Layout) (js : List ℕ) → length js ≤ z.m → most_steps z (Call.Scan js) ≤ most_of_update z
most_of_scan z [] few = omega arith
most_of_scan z (j ∷ js) few = let times = mul-le-mul few (let more : length (j ∷ js) + 2 ≤ z.m + 2 = omega (arith, few) in more) in omega (arith, few, times)

most_of_call : (z : Layout) (c : Call) → IsServed z.m c → most_steps z c ≤ most_of_update z
most_of_call z (Call.Update j v) served = omega arith
most_of_call z (Call.Scan js) served = most_of_scan z js served
most_of_call z (Call.Read j) served = omega arith
most_of_call z (Call.UpdateIf j x v) served = omega arith

-- no call makes more steps than 64 bits count
update_fits : (z : Layout) → IsLayout z → most_of_update z + 1 < 2 ^ 64
update_fits z layout =
    let m = layout.components.1 in
    let slots = layout.slots.1 in
    let lists = layout.lists in
    let walk : z.slots * (z.m + 3) ≤ 65536 * 65539 = mul-le-mul slots (let top : z.m + 3 ≤ 65539 = omega (arith, m) in top) in
    let view : z.m * (z.m + 2) ≤ 65536 * 65538 = mul-le-mul m (let top : z.m + 2 ≤ 65538 = omega (arith, m) in top) in
    omega (arith, m, lists, walk, view)

most_fits : (z : Layout) (c : Call) → IsLayout z → IsServed z.m c → most_steps z c + 1 < 2 ^ 64
most_fits z c layout served = let few = most_of_call z c served in let fits = update_fits z layout in omega (arith, few, fits)

-- the due step of a port whose call is under way may be made
pub may_step : {plans : List (List Call)} {s : ReplayState} {p : ℕ} {calls : List Call} {port : Port} {way : UnderWay} → IsRunOf plans s → ArePlans s.sizes.m plans →
    PortAt plans s.ports p calls port → port.under_way ≡ Some way → MayStep calls s.memory port
may_step {plans} {s} {p} {calls} {port} {way} w served here is =
    let z = s.sizes in
    let words = s.memory.words in
    let log = s.memory.history.items in
    let at = part_at w here in
    let u = under_way at.fits is in
    let ready = lawful_machines_are_ready z s.opening (among s at.before at.x at.after) port.core at.lawful u.machine in
    let due = due_step port.core (ready.due ∙ ap not u.due) in
    let step = due.0 in
    let l = leads at is step due.1 in
    let adds = due_adds at is step due.1 in
    let entries = added_by z (port_of at.x) words step in
    let call_served : IsServed z.m u.call = AllByRecursion-get (IsServed z.m) calls (length port.finished.items) u.call
    (AllByRecursion-get (λ (cs : List Call). (length cs < 2 ^ 32) × AllByRecursion (IsServed z.m) cs) plans p calls served here.plan).1 u.next in
    let fits : most_steps port.core.sizes u.call + 1 < 2 ^ 64 = subst (λ (y : Layout). most_steps y u.call + 1 < 2 ^ 64) (sym ready.sizes) (most_fits z u.call at.lawful.memory.sizes call_served) in
    let within : AreWithin (length s.opening.values) (words_after words step) (log ++ entries) =
    lawful_within z s.opening (words_after words step) (at.before ++ l.y ∷ at.after) (log ++ entries) l.lawful in
    record {
      step = step;
      way = way;
      call = u.call;
      due = due.1;
      was = is;
      within = l.answers.within;
      possible = l.tells.possible;
      exchange = adds.within;
      steps = omega (arith, u.steps, fits);
      next = u.next;
      ends = end_may at is step due.1 port;
      places = subst (λ (es : List Applied). AreWithin port.core.sizes.m (words_after words step) (log ++ es))
          (ap (λ n. added_by z n words step) (at.fits.part ∙ sym at.fits.number) ∙ sym adds.entry)
          (subst (λ n. AreWithin n (words_after words step) (log ++ entries)) (sym at.fits.sizes) within);
    }

-- the call under way of a port whose turn is ready, which is one of its calls
pub ready_way : {plans : List (List Call)} {run : Run} {p : ℕ} {calls : List Call} {port : Port} → PortAt plans run.ports.items p calls port → (r : IsTurnReady p run) → port.under_way ≡ Some r.way
ready_way at r = ap (λ (t : Port). t.under_way) (some_same (sym at.is ∙ r.is)) ∙ r.under

pub ready_below : {plans : List (List Call)} {run : Run} {p : ℕ} {calls : List Call} {port : Port} → IsRunOf plans (state_of run) → PortAt plans run.ports.items p calls port → IsTurnReady p run →
    length port.finished.items < length calls
ready_below {calls} {port} w here r =
    let at = part_at w here in
    let u = under_way at.fits (ready_way here r) in
    place_below calls (length port.finished.items) u.call u.next

-- a step keeps the replay's state
pub step_keeps : {plans : List (List Call)} {s : ReplayState} {now : Memory} {p : ℕ} {calls : List Call} {port new : Port} → now.sizes ≡ s.sizes → IsRunOf plans s →
    PortAt plans s.ports p calls port → AreStartedBut p s.ports → StepMade calls s.memory now port new → IsRunOf plans (record s { sizes = now.sizes; memory = now; ports = slice_set s.ports p new })
step_keeps {plans} {s} {now} {p} {calls} {port} {new} same w here started m =
    let z = s.sizes in
    let o = s.opening in
    let words = s.memory.words in
    let log = s.memory.history.items in
    let at = part_at w here in
    let l = leads at m.was m.step m.due in
    let a = answer_of words m.step in
    let gained = added_by z (port_of at.x) words m.step in
    let log_is : now.history.items ≡ log ++ gained = m.log_is ∙ ap (λ (ws : List ℕ). log ++ entry_at port.core.sizes.m ws port.number m.step a) m.words_are
    ∙ ap (λ (es : List Applied). log ++ es) (due_adds at m.was m.step m.due).entry ∙ ap (λ n. log ++ added_by z n words m.step) (at.fits.number ∙ sym at.fits.part) in
    let core = core_behind s.memory m.step port in
    let after : MatchOption (reply_of core) (CallGoesOn port new m.way core) (Ends calls (words_after words m.step) (log ++ gained) port new m.way core) =
    subst (λ (k : List Applied). MatchOption (reply_of core) (CallGoesOn port new m.way core) (Ends calls (words_after words m.step) k port new m.way core)) log_is
    (subst (λ (ws : List ℕ). MatchOption (reply_of core) (CallGoesOn port new m.way core) (Ends calls ws now.history.items port new m.way core)) m.words_are m.after) in
    let parts = at.before ++ l.y ∷ at.after in
    let event = event_of s.memory port.number m.step in
    let entries = entries_push z.m (ap (λ (v : Layout). v.m) l.tells.sizes) w.entries m in
    subst (λ (v : Layout). IsRunOf plans (record s { sizes = v; memory = now; ports = slice_set s.ports p new })) (sym same) (record {
      parts = parts;
      opened = w.opened;
      opens = w.opens;
      lawful = subst (λ (ws : List ℕ). Lawful z o ws parts now.history.items) (sym m.words_are)
          (subst (λ (k : List Applied). Lawful z o (words_after words m.step) parts k) (sym log_is) l.lawful);
      fit = subst (λ (k : List Applied). PortsFit o k 0 plans parts (slice_set s.ports p new)) (sym log_is)
          (at.replace gained l.y new (step_fits at m.was m.step m.due new (reply_of core) refl m.number m.falls after));
      leads = subst (λ (ws : List ℕ). Leads w.opened now.trace ws) (sym m.words_are)
          (subst (λ (es : List Event). Leads w.opened es (words_after words m.step)) (sym m.trace_is) (leads_push w.opened words s.memory.trace event w.leads l.answers));
      entries = entries;
      senders = subst (AllByRecursion (λ (e : Event). e.port < length plans)) (sym m.trace_is)
          (AllByRecursion-push (λ (e : Event). e.port < length plans) s.memory.trace event w.senders
          (let below = place_below plans p calls here.plan in omega (arith, below, at.fits.number)));
      made = ports_step s w.made (log_long z.m s.memory.trace log w.entries) (log_long z.m now.trace now.history.items entries) started here at.fits.number m;
    })

-- the steps that the port has left
pub left_is : (plans : List (List Call)) (ports : List Port) (i : ℕ) {calls : List Call} {port : Port} → PortAt plans ports i calls port → port_left_at i plans ports ≡ port_left calls port
left_is [] ports i {calls} at = let bad : None ≡ Some calls = at.plan in cc
left_is (d ∷ plans) [] i {port} at = let bad : None ≡ Some port = at.is in cc
left_is (d ∷ plans) (u ∷ ports) zero {calls} at = ap (λ (e : List Call). port_left e u) (some_same at.plan) ∙ ap (λ (v : Port). port_left calls v) (some_same at.is)
left_is (d ∷ plans) (u ∷ ports) (suc i) at = left_is plans ports i (record { plan = at.plan; is = at.is })

left_under_way : (calls : List Call) (port : Port) (way : UnderWay) → port.under_way ≡ Some way → port_left calls port ≡ left_for port.core.sizes
    (length calls - length port.finished.items - 1) + steps_left port.core
left_under_way calls port way is = ap (λ (f : Option UnderWay). option_map_or (λ (v : UnderWay). left_for port.core.sizes (length calls - length port.finished.items - 1) + steps_left port.core) f
    (left_for port.core.sizes (length calls - length port.finished.items))) is

left_between : (calls : List Call) (port : Port) → port.under_way ≡ None → port_left calls port ≡ left_for port.core.sizes (length calls - length port.finished.items)
left_between calls port is = ap (λ (f : Option UnderWay). option_map_or (λ (v : UnderWay). left_for port.core.sizes (length calls - length port.finished.items - 1) + steps_left port.core) f
    (left_for port.core.sizes (length calls - length port.finished.items))) is

pub left_falls : {calls : List Call} {old now : Memory} {port new : Port} → length port.finished.items < length calls → (m : StepMade calls old now port new) →
    (core_behind old m.step port).sizes ≡ port.core.sizes → port_left calls new < port_left calls port
left_falls {calls} {old} {now} {port} {new} more m sizes =
    let before = left_under_way calls port m.way m.was in
    step_cases m (port_left calls new < port_left calls port)
    (λ g.
    let behind = left_under_way calls new (one_step_more m.way) g.way' in
    let left : steps_left new.core ≡ steps_left (core_behind old m.step port) = ap steps_left g.machine in
    let rest : left_for new.core.sizes (length calls - length new.finished.items - 1) ≡ left_for port.core.sizes (length calls - length port.finished.items - 1) =
    ap (λ (z : Layout). left_for z (length calls - length new.finished.items - 1)) (ap (λ (s : CoreState). s.sizes) g.machine ∙ sizes) ∙
    ap (λ n. left_for port.core.sizes (length calls - n - 1)) (ap length g.finished) in
    omega (arith, before, behind, left, rest, m.falls))
    (λ r replied e.
    let behind = left_between calls new e.none in
    let longer : length new.finished.items ≡ length port.finished.items + 1 = ap length e.finished ∙ length_push port.finished.items
    (ended_call port.number (length port.finished.items) e.call (one_step_more m.way) (length now.history.items) (answer_for (core_behind old m.step port) r) e.note) in
    let rest : left_for new.core.sizes (length calls - length new.finished.items) ≡ left_for port.core.sizes (length calls - length port.finished.items - 1) =
    ap (λ (z : Layout). left_for z (length calls - length new.finished.items)) (ap (λ (s : CoreState). s.sizes) e.machine ∙ sizes) ∙ ap (λ n. left_for port.core.sizes n) (omega (arith, longer)) in
    omega (arith, before, behind, rest, m.falls))

-- fewer calls, fewer steps
left_fewer : (z : Layout) (a b : ℕ) → a ≤ b → left_for z a ≤ left_for z b
left_fewer z a b less = mul-le-mul_left (most_of_update z + 1) less

left_one_more : (z : Layout) (n : ℕ) → left_for z (n + 1) ≡ left_for z n + (most_of_update z + 1)
left_one_more z n = ap (λ k. (most_of_update z + 1) * k) (let one : n + 1 ≡ suc n = omega arith in one) ∙ mul-suc (most_of_update z + 1) n

-- where a port begins its next call, it has no more left than before
pub left_begun : (calls : List Call) (port new : Port) → new.core.sizes ≡ port.core.sizes → port.under_way ≡ None → length port.finished.items ≤ length new.finished.items →
    length new.finished.items ≤ length calls → ((way : UnderWay) → new.under_way ≡ Some way → (steps_left new.core ≤ most_of_update port.core.sizes) × (length new.finished.items < length calls)) →
    port_left calls new ≤ port_left calls port
left_begun calls port new sizes none more few f = at_way new.under_way refl
  where
    at_way : (way : Option UnderWay) → new.under_way ≡ way → port_left calls new ≤ port_left calls port
    at_way None is =
        let old = left_between calls port none in
        let now = left_between calls new is in
        let same : left_for new.core.sizes (length calls - length new.finished.items) ≡ left_for port.core.sizes (length calls - length new.finished.items) =
        ap (λ (z : Layout). left_for z (length calls - length new.finished.items)) sizes in
        let less = left_fewer port.core.sizes (length calls - length new.finished.items) (length calls - length port.finished.items) (omega (arith, more)) in
        omega (arith, old, now, same, less)
    at_way (Some way) is =
        let old = left_between calls port none in
        let now = left_under_way calls new way is in
        let both = f way is in
        let top = both.0 in
        let below = both.1 in
        let same : left_for new.core.sizes (length calls - length new.finished.items - 1) ≡ left_for port.core.sizes (length calls - length new.finished.items - 1) =
        ap (λ (z : Layout). left_for z (length calls - length new.finished.items - 1)) sizes in
        let one = left_one_more port.core.sizes (length calls - length new.finished.items - 1) in
        let less = left_fewer port.core.sizes (length calls - length new.finished.items - 1 + 1) (length calls - length port.finished.items) (omega (arith, more, below)) in
        omega (arith, old, now, same, one, less, top)

-- there are as many ports as plans
pub ports_length : {o : Opening} {log : List Applied} {q : ℕ} {plans : List (List Call)} {parts : List Part} {ports : List Port} → PortsFit o log q plans parts ports → length ports ≡ length plans
ports_length no_ports = refl
ports_length (first_port f rest) = ap suc (ports_length rest)

-- the element that was read at a place
got : {A : Type 0} (xs : List A) (i : ℕ) (x : A) → i < length xs → x ≡ slice_index_or xs i x → slice_get xs i ≡ Some x
got xs i x below is = get_is xs i x below ∙ ap Some (sym is)

-- the port that a turn is about, and its calls, as they were read
pub port_here : {plans : List (List Call)} {s : ReplayState} (p : ℕ) {plan calls : List Call} {port : Port} → IsRunOf plans s → p < length plans → plan ≡ slice_index_or plans p plan → calls ≡ plan →
    port ≡ slice_index_or s.ports p port → PortAt plans s.ports p calls port
port_here {plans} {s} p {plan} {port} w below plan_is calls_are is =
    let many = ports_length w.fit in
    record { plan = got plans p plan below plan_is ∙ ap Some (sym calls_are); is = got s.ports p port (omega (arith, many, below)) is }

pub none_of : {A : Type 0} (f : Option A) → is_some f ≡ false → f ≡ None
none_of None e = refl
none_of (Some a) e = absurd (false≢true (sym e))

pub some_of : {A : Type 0} (f : Option A) → is_some f ≡ true → (a : A) × (f ≡ Some a)
some_of None e = absurd (false≢true e)
some_of (Some a) e = (a, refl)

pub match_bool : (b : Bool) (P Q R S : Type 0) → MatchBool b P Q → (P → R) → (Q → S) → MatchBool b R S
match_bool true P Q R S m f g = f m
match_bool false P Q R S m f g = g m

-- a port that had made all its calls begins none
pub begun_done : (b : Bool) (calls : List Call) (port new : Port) → length port.finished.items ≡ length calls → length port.finished.items ≤ length new.finished.items →
    MatchBool b (IsSome new.under_way × (length new.finished.items < length calls)) ((new.under_way ≡ None) × (length new.finished.items ≡ length calls)) → (new.under_way ≡ None) ×
    (length new.finished.items ≡ length calls)
begun_done true calls port new all more m = let below = m.1 in absurd (omega (arith, all, more, below))
begun_done false calls port new all more m = m

-- the machine of a port has as many components as the memory
pub components_here : {plans : List (List Call)} {s : ReplayState} {p : ℕ} {calls : List Call} {port : Port} → IsRunOf plans s → PortAt plans s.ports p calls port → s.sizes.m ≡ port.core.sizes.m
components_here w here = sym ((part_at w here).fits.sizes ∙ w.lawful.memory.values)

-- the calls of a port are ones that its machine serves
pub served_here : {plans : List (List Call)} {s : ReplayState} {p : ℕ} {calls : List Call} {port : Port} → IsRunOf plans s → ArePlans s.sizes.m plans → PortAt plans s.ports p calls port →
    AllByRecursion (IsServed port.core.sizes.m) calls
served_here {plans} {s} {p} {calls} w served here =
    subst (λ m. AllByRecursion (IsServed m) calls) (components_here w here)
    (AllByRecursion-get (λ (cs : List Call). (length cs < 2 ^ 32) × AllByRecursion (IsServed s.sizes.m) cs) plans p calls served here.plan).1

-- what follows of a result from two that follow of it
pub on_ok_both : {A E : Type 0} {P Q R : Type 0} (r : Result A E) → (P → Q → R) → OnOk r P → OnOk r Q → OnOk r R
on_ok_both (Ok a) f p q = f p q
on_ok_both (Err e) f p q = tt

pub idle_between : {o : Opening} {log : List Applied} {calls : List Call} {p : ℕ} {x : Part} {port : Port} → PortFits o log calls p x port → port.under_way ≡ None → port.core.stage ≡ Idle
idle_between w none = (between_of w none).idle

-- a port that has begun its next call where none was under way has no more left than before
pub left_ready : {o : Opening} {log : List Applied} {calls : List Call} {p : ℕ} {x : Part} {new : Port} (port : Port) → AllByRecursion (IsServed port.core.sizes.m) calls →
    new.core.sizes ≡ port.core.sizes → PortFits o log calls p x new → port.under_way ≡ None → length port.finished.items ≤ length new.finished.items → port_left calls new ≤ port_left calls port
left_ready {calls} {new} port served sizes w none more =
    left_begun calls port new sizes none more w.few (λ way is.
    let u = under_way w is in
    let call_served = AllByRecursion-get (IsServed port.core.sizes.m) calls (length new.finished.items) u.call served u.next in
    let most = most_of_call port.core.sizes u.call call_served in
    let same : most_steps new.core.sizes u.call ≡ most_steps port.core.sizes u.call = ap (λ (z : Layout). most_steps z u.call) sizes in
    (omega (arith, u.steps, most, same), place_below calls (length new.finished.items) (u.call) u.next))
