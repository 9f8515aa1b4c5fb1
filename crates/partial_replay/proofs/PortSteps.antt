-- The events of a port are the steps of its calls.
use Rattle.partial_replay.proofs.{Common.{ℕ, ◌≢◌, ◌≤◌, suc, ◌≡◌, ◌+◌, ◌<◌, ◌==◌, ◌++◌, Bool, true, false, if◌then◌else◌, List, [], ◌∷◌, length, map, slice_set, Option, Some, None, IfSome, MatchOption, slice_get, refl, sym, ◌∙◌, ap, subst, arith, append_assoc, length-append, AllByRecursion, filter, filter_map, cons_option, sum_by, option_map, is_some, IsSome, append-nil, length_push, length-map, sum_by-cons, false≢true, ne_eqb, filter-append, Applied, Call, Called, Finish, Opening, Step, Event, Layout, word_of, Reply, Idle, Finished, CoreState, at_stage, advance, step_of, reply_at, reply_of, fresh, IsPossible, Part, IsBetween, answer_for, is_at_rest, begun_of, refusal_of, Port, UnderWay, Moment, last_behind, adds, is_won, new_of, event_entry, moments_from, moments_by, ports_of, events_in, EndInStep, Makes, IsCallRun, AreStepsOf, IsCallUnderWay, PortFits, IsCallGoing, PortMade, KeepsMade, unfinished_call, began_at, IsDoneAtOnce, ended_call, one_step_more, CallGoesOn, Ends, StepMade, ArePortsMade, AreStarted, AreStartedBut, left_over, unvalued, StopsAtStep, Stage, some_same, Memory, core_behind, event_of, ReplayState, PortAt}, PortLaws.{same_eqb, get_set_other, port_set, at_set, step_cases}, Opens.over_none, LegalOutcomes.begun_by}

-- one call more
pub steps_push : (s t u : CoreState) (cs : List Called) (c : Called) (xs own : List Moment) → AreStepsOf s cs xs t → IsCallRun t c own u → length own ≡ c.steps →
    AreStepsOf s (cs ++ c ∷ []) (xs ++ own) u
steps_push s t u [] c xs own w call long =
    (own, [], u, ap (λ (l : List Moment). l ++ own) w.0 ∙ sym (append-nil own), long, subst (λ (v : CoreState). IsCallRun v c own u) w.1 call, (refl, refl))
steps_push s t u (d ∷ cs) c xs own w call long =
    (w.0, w.1 ++ own, w.2, ap (λ (l : List Moment). l ++ own) w.3 ∙ append_assoc (w.0) (w.1) own, w.4, w.5, steps_push (w.2) t u cs c (w.1) own w.6 call long)

-- one event more of the call under way
makes_push : (s t u : CoreState) (xs : List Moment) (x : Moment) → Makes s xs t → step_of t ≡ Some x.event.step → IsPossible t x.event.answer → u ≡ advance t x.event.answer → Makes s (xs ++ x ∷ []) u
makes_push s t u [] x m due possible is = (
  subst (λ (v : CoreState). step_of v ≡ Some x.event.step) m due,
  subst (λ (v : CoreState). IsPossible v x.event.answer) m possible,
  is ∙ ap (λ (v : CoreState). advance v x.event.answer) m,
)
makes_push s t u (y ∷ xs) x m due possible is = (m.0, m.1, makes_push (advance s y.event.answer) t u xs x m.2 due possible is)

behind_push : (n : ℕ) (xs : List Moment) (x : Moment) → last_behind n (xs ++ x ∷ []) ≡ x.behind
behind_push n [] x = refl
behind_push n (y ∷ xs) x = behind_push y.behind xs x

began_push : (n k : ℕ) (xs : List Moment) (x : Moment) → x.before ≡ n → began_at n xs ≡ began_at k (xs ++ x ∷ [])
began_push n k [] x is = sym is
began_push n k (y ∷ xs) x is = refl

-- a call that has made its last step, or that is left unfinished
call_of : (s t last : CoreState) (c : Called) (own : List Moment) (x : Moment) → refusal_of s c.call ≡ None → Makes (begun_of s c.call) (own ++ x ∷ []) last → c.began ≡ began_at 0 (own ++ x ∷ []) →
    option_map (λ (f : Finish). f.answer) c.finish ≡ option_map (answer_for last) (reply_of last) → IfSome c.finish (λ (f : Finish). f.ended ≡ x.behind) → t ≡ at_stage last Idle →
    IsCallRun s c (own ++ x ∷ []) t
call_of s t last c [] x begins makes began answered ended rests = record { begins = begins; last = last; makes = makes; began = began; answered = answered; ended = ended; rests = rests }
call_of s t last c (y ∷ own) x begins makes began answered ended rests =
    record {
      begins = begins;
      last = last;
      makes = makes;
      began = began;
      answered = answered;
      ended = subst (λ n. IfSome c.finish (λ (f : Finish). f.ended ≡ n))
          (sym (behind_push y.behind own x)) ended;
      rests = rests;
    }

-- a call begins at a port between calls
pub begun_made : {z : Layout} {n : ℕ} {calls : List Call} {p : ℕ} {xs : List Moment} {port new : Port} {call : Call} → PortMade z n calls p xs port → port.under_way ≡ None →
    slice_get calls (length port.finished.items) ≡ Some call → refusal_of port.core call ≡ None → new.core ≡ begun_of port.core call → new.finished.items ≡ port.finished.items →
    new.under_way ≡ Some (record { began = n; steps = 0 }) → PortMade z n calls p xs new
begun_made {z} {n} {calls} {p} {port} {new} {call} w none next refusal core finished way =
    let nil : List Moment = [] in
    let idle : (w.own ≡ []) × (port.core ≡ w.at) = subst (λ (f : Option UnderWay). MatchOption f ((w.own ≡ []) × (port.core ≡ w.at))
    (IsCallGoing n calls port.finished.items w.at port.core w.own)) none w.going in
    let going : IsCallGoing n calls new.finished.items w.at new.core [] (record { began = n; steps = 0 }) = record {
      call = call;
      next = ap (λ (d : List Called). slice_get calls (length d)) finished ∙ next;
      begins = subst (λ (s : CoreState). refusal_of s call ≡ None) idle.1 refusal;
      makes = core ∙ ap (λ (s : CoreState). begun_of s call) idle.1;
      steps = refl;
      began = refl;
    } in
    record {
      done = w.done;
      own = [];
      at = w.at;
      is = w.is ∙ ap (λ (l : List Moment). w.done ++ l) idle.0;
      led = subst (λ (d : List Called). AreStepsOf (fresh z p) d w.done w.at) (sym finished) w.led;
      going = subst (λ (f : Option UnderWay). MatchOption f ((nil ≡ []) × (new.core ≡ w.at)) (IsCallGoing n calls new.finished.items w.at new.core [])) (sym way) going;
    }

-- a call is finished at once at a port between calls
pub once_made : {z : Layout} {n : ℕ} {calls : List Call} {p : ℕ} {xs : List Moment} {port new : Port} {call : Call} {c : Called} → PortMade z n calls p xs port → port.under_way ≡ None →
    IsDoneAtOnce port.number (length port.finished.items) call n port.core new.core c → new.finished.items ≡ port.finished.items ++ c ∷ [] → new.under_way ≡ None → PortMade z n calls p xs new
once_made {z} {n} {calls} {p} {port} {new} {c} w none d finished way =
    let nil : List Moment = [] in
    let idle : (w.own ≡ []) × (port.core ≡ w.at) = subst (λ (f : Option UnderWay). MatchOption f ((w.own ≡ []) × (port.core ≡ w.at))
    (IsCallGoing n calls port.finished.items w.at port.core w.own)) none w.going in
    let here : IsCallRun w.at c [] new.core = subst (λ (s : CoreState). IsCallRun s c [] new.core) idle.1 d.done in
    let led = steps_push (fresh z p) w.at new.core port.finished.items c w.done [] w.led here (sym d.steps) in
    record {
      done = w.done ++ [];
      own = [];
      at = new.core;
      is = w.is ∙ ap (λ (l : List Moment). w.done ++ l) idle.0 ∙ sym (append-nil (w.done ++ []));
      led = subst (λ (d : List Called). AreStepsOf (fresh z p) d (w.done ++ []) new.core) (sym finished) led;
      going = subst (λ (f : Option UnderWay). MatchOption f ((nil ≡ []) × (new.core ≡ new.core)) (IsCallGoing n calls new.finished.items new.core new.core [])) (sym way) (refl, refl);
    }

-- the event of a step, with the lengths of the history before and after it
abbrev moment_of : Memory → Memory → ℕ → Step → Moment
moment_of old now p step = record { event = event_of old p step; before = length old.history.items; behind = length now.history.items }

-- a step of the call under way: it goes on, or it is finished
module _ {z : Layout} {calls : List Call} {p : ℕ} {xs : List Moment} {old now : Memory} {port new : Port} (m : StepMade calls old now port new)
    (w : PortMade z (length old.history.items) calls p xs port) where
  abbrev x : Moment
  x = moment_of old now port.number m.step

  abbrev events : List Moment
  events = w.own ++ moment_of old now port.number m.step ∷ []

  abbrev last : CoreState
  last = core_behind old m.step port

  u : IsCallGoing (length old.history.items) calls port.finished.items w.at port.core w.own m.way
  u = subst (λ (f : Option UnderWay). MatchOption f ((w.own ≡ []) × (port.core ≡ w.at)) (IsCallGoing (length old.history.items) calls port.finished.items w.at port.core w.own)) m.was w.going

  goes_made : CallGoesOn port new m.way last → PortMade z (length now.history.items) calls p (xs ++ x ∷ []) new
  goes_made g =
      let going : IsCallGoing (length now.history.items) calls new.finished.items w.at new.core events (one_step_more m.way) = record {
        call = u.call;
        next = ap (λ (d : List Called). slice_get calls (length d)) g.finished ∙ u.next;
        begins = u.begins;
        makes = makes_push (begun_of w.at u.call) port.core new.core w.own x u.makes m.due m.possible g.machine;
        steps = length_push w.own x ∙ ap (λ n. n + 1) u.steps;
        began = u.began ∙ began_push (length old.history.items) (length now.history.items) w.own x refl;
      } in
      record {
        done = w.done;
        own = events;
        at = w.at;
        is = ap (λ (l : List Moment). l ++ x ∷ []) w.is ∙ append_assoc w.done w.own (x ∷ []);
        led = subst (λ (d : List Called). AreStepsOf (fresh z p) d w.done w.at) (sym g.finished) w.led;
        going = subst (λ (f : Option UnderWay). MatchOption f ((events ≡ []) × (new.core ≡ w.at)) (IsCallGoing (length now.history.items) calls new.finished.items w.at new.core events))
            (sym g.way') going;
      }

  ends_made : (r : Reply) → reply_of last ≡ Some r → Ends calls now.words now.history.items port new m.way last r → PortMade z (length now.history.items) calls p (xs ++ x ∷ []) new
  ends_made r replied e =
      let nil : List Moment = [] in
      let c = ended_call port.number (length port.finished.items) e.call (one_step_more m.way) (length now.history.items) (answer_for last r) e.note in
      let same : u.call ≡ e.call = some_same (sym u.next ∙ e.next) in
      let makes : Makes (begun_of w.at u.call) events last = makes_push (begun_of w.at u.call) port.core last w.own x u.makes m.due m.possible refl in
      let call : IsCallRun w.at c events (at_stage last Idle) = call_of w.at (at_stage last Idle) last c w.own x
      (subst (λ (d : Call). refusal_of w.at d ≡ None) same u.begins)
      (subst (λ (d : Call). Makes (begun_of w.at d) events last) same makes)
      (u.began ∙ began_push (length old.history.items) 0 w.own x refl)
      (sym (ap (option_map (answer_for last)) replied)) refl refl in
      let led = steps_push (fresh z p) w.at (at_stage last Idle) port.finished.items c w.done events w.led call (length_push w.own x ∙ ap (λ n. n + 1) u.steps) in
      record {
        done = w.done ++ events;
        own = [];
        at = at_stage last Idle;
        is = ap (λ (l : List Moment). l ++ x ∷ []) w.is ∙ append_assoc w.done w.own (x ∷ []) ∙ sym (append-nil (w.done ++ events));
        led = subst (λ (d : List Called). AreStepsOf (fresh z p) d (w.done ++ events) (at_stage last Idle)) (sym e.finished) led;
        going = subst (λ (f : Option UnderWay). MatchOption f ((nil ≡ []) × (new.core ≡ at_stage last Idle)) (IsCallGoing (length now.history.items) calls new.finished.items (at_stage last Idle)
            new.core [])) (sym e.none) (refl, e.machine);
      }

  pub step_made : PortMade z (length now.history.items) calls p (xs ++ x ∷ []) new
  step_made = step_cases m (PortMade z (length now.history.items) calls p (xs ++ x ∷ []) new) goes_made ends_made

-- another port's step
own_stays : (n k : ℕ) (own : List Moment) (way : UnderWay) → length own ≡ way.steps → 0 < way.steps → began_at n own ≡ began_at k own
own_stays n k [] way long some = absurd (omega (arith, long, some))
own_stays n k (x ∷ own) way long some = refl

going_stays : (n k : ℕ) (calls : List Call) (done : List Called) (at core : CoreState) (own : List Moment) (way : Option UnderWay) → ((v : UnderWay) → way ≡ Some v → 0 < v.steps) →
    MatchOption way ((own ≡ []) × (core ≡ at)) (IsCallGoing n calls done at core own) → MatchOption way ((own ≡ []) × (core ≡ at)) (IsCallGoing k calls done at core own)
going_stays n k calls done at core own None started w = w
going_stays n k calls done at core own (Some way) started w =
    record { call = w.call; next = w.next; begins = w.begins; makes = w.makes; steps = w.steps; began = w.began ∙ own_stays n k own way w.steps (started way refl) }

other_made : {z : Layout} {n : ℕ} {calls : List Call} {q : ℕ} {xs : List Moment} {port : Port} (k : ℕ) → ((v : UnderWay) → port.under_way ≡ Some v → 0 < v.steps) → PortMade z n calls q xs port →
    PortMade z k calls q xs port
other_made {n} {calls} {port} k started w = record {
  done = w.done;
  own = w.own;
  at = w.at;
  is = w.is;
  led = w.led;
  going = going_stays n k calls port.finished.items w.at port.core w.own port.under_way started w.going;
}

-- how long the history is after a trace
abbrev pub long_by : ℕ → ℕ → List Event → ℕ
long_by m n es = last_behind n (moments_from m n es)

moments_push : (m n : ℕ) (es : List Event) (e : Event) → moments_from m n (es ++ e ∷ []) ≡ moments_from m n es ++ record { event = e; before = long_by m n es; behind = long_by m n es + adds m e } ∷ []
moments_push m n [] e = refl
moments_push m n (d ∷ es) e = ap (λ (l : List Moment). record { event = d; before = n; behind = n + adds m d } ∷ l) (moments_push m (n + adds m d) es e)

long_push : (m n : ℕ) (es : List Event) (e : Event) → long_by m n (es ++ e ∷ []) ≡ long_by m n es + adds m e
long_push m n [] e = refl
long_push m n (d ∷ es) e = long_push m (n + adds m d) es e

long_entry : (b : Bool) (x : Applied) (xs : List Applied) → length (cons_option (if b then Some x else None) xs) ≡ (if b then 1 else 0) + length xs
long_entry true x xs = omega arith
long_entry false x xs = omega arith

long_entries : (m n : ℕ) (es : List Event) → long_by m n es ≡ n + length (filter_map (event_entry m (λ _. 0)) es)
long_entries m n [] = omega arith
long_entries m n (e ∷ es) =
    let rest = long_entries m (n + adds m e) es in
    let one = long_entry (is_won m e.step e.answer) (record { port = e.port; component = word_of e.step; value = 0; stamp = new_of e.step }) (filter_map (event_entry m (λ _. 0)) es) in
    omega (arith, rest, one)

-- the history is as long as the trace makes it
pub log_long : (m : ℕ) (trace : List Event) (log : List Applied) → filter_map (event_entry m (λ _. 0)) trace ≡ map unvalued log → length log ≡ long_by m 0 trace
log_long m trace log same = let all = long_entries m 0 trace in let long : length (filter_map (event_entry m (λ _. 0)) trace) ≡ length log =
    ap length same ∙ length-map log unvalued in omega (arith, all, long)

by_push : (m q n k : ℕ) (trace : List Event) (e : Event) → n ≡ long_by m 0 trace → k ≡ long_by m 0 (trace ++ e ∷ []) → moments_by m q (trace ++ e ∷ []) ≡ moments_by m q trace ++
    (if e.port == q then record { event = e; before = n; behind = k } ∷ [] else [])
by_push m q n k trace e before behind =
    let last = long_push m 0 trace e in
    ap (filter (λ (x : Moment). x.event.port == q)) (moments_push m 0 trace e)
    ∙ filter-append (λ (x : Moment). x.event.port == q) (moments_from m 0 trace) (record { event = e; before = long_by m 0 trace; behind = long_by m 0 trace + adds m e } ∷ [])
    ∙ ap (λ i. moments_by m q trace ++ (if e.port == q then record { event = e; before = i; behind = long_by m 0 trace + adds m e } ∷ [] else [])) (sym before)
    ∙ ap (λ i. moments_by m q trace ++ (if e.port == q then record { event = e; before = n; behind = i } ∷ [] else [])) (sym last ∙ sym behind)

-- a step of port i, and a call that begins there
pub ports_step : {plans : List (List Call)} (s : ReplayState) {now : Memory} {i : ℕ} {calls : List Call} {port new : Port} → ArePortsMade plans s →
    length s.memory.history.items ≡ long_by s.sizes.m 0 s.memory.trace → length now.history.items ≡ long_by s.sizes.m 0 now.trace → AreStartedBut i s.ports →
    PortAt plans s.ports i calls port → port.number ≡ i → StepMade calls s.memory now port new → ArePortsMade plans (record s { memory = now; ports = slice_set s.ports i new })
ports_step s {now} {calls} {port} {new} made before behind started at number m q =
    let n = length now.history.items in
    let x = moment_of s.memory now port.number m.step in
    let front = moments_by s.sizes.m q s.memory.trace in
    let push : (b : Bool) → (port.number == q) ≡ b → front ++ (if b then x ∷ [] else []) ≡ moments_by s.sizes.m q now.trace = λ b is.
    sym (ap (moments_by s.sizes.m q) m.trace_is ∙ by_push s.sizes.m q (length s.memory.history.items) n s.memory.trace x.event before (behind ∙ ap (long_by s.sizes.m 0) m.trace_is)
    ∙ ap (λ (c : Bool). front ++ (if c then x ∷ [] else [])) is) in
    at_set new at q (λ ds u. PortMade s.sizes n ds q (moments_by s.sizes.m q now.trace) u)
    (λ same here. subst (λ (xs : List Moment). PortMade s.sizes n calls q xs new) (push true (same_eqb port.number q (number ∙ sym same))) (step_made m (made q calls port here)))
    (λ other ds u here. subst (λ (xs : List Moment). PortMade s.sizes n ds q xs u) (sym (append-nil front) ∙ push false (ne_eqb port.number q (λ h. other (sym h ∙ number))))
    (other_made n (λ v way. started q u v other here.is way) (made q ds u here)))

pub ports_begin : {plans : List (List Call)} (s : ReplayState) {i : ℕ} {calls : List Call} {port new : Port} → ArePortsMade plans s → PortAt plans s.ports i calls port →
    KeepsMade calls (length s.memory.history.items) port new → ArePortsMade plans (record s { ports = slice_set s.ports i new })
ports_begin s {calls} {port} {new} made at keeps q =
    let xs = moments_by s.sizes.m q s.memory.trace in
    at_set new at q (λ ds u. PortMade s.sizes (length s.memory.history.items) ds q xs u)
    (λ same here. keeps s.sizes q xs (made q calls port here)) (λ other. made q)

-- the calls under way have made a step
pub started_set : {plans : List (List Call)} {ports : List Port} {i : ℕ} {calls : List Call} {port : Port} (new : Port) → PortAt plans ports i calls port → AreStartedBut i ports →
    ((way : UnderWay) → new.under_way ≡ Some way → 0 < way.steps) → AreStarted (slice_set ports i new)
started_set {ports} {i} new at started own q u way is under =
    port_set ports i new at.is q (λ (v : Port). (k : UnderWay) → v.under_way ≡ Some k → 0 < k.steps) (λ same. own) (λ other v here k. started q v k other here) u is way under

pub started_but : (ports : List Port) (i : ℕ) (new : Port) → AreStarted ports → AreStartedBut i (slice_set ports i new)
started_but ports i new started q u way other is under = started q u way (sym (get_set_other ports i q new other) ∙ is) under

pub started_idle : {plans : List (List Call)} {ports : List Port} {i : ℕ} {calls : List Call} {port : Port} (new : Port) → PortAt plans ports i calls port → AreStarted ports →
    new.under_way ≡ None → AreStarted (slice_set ports i new)
started_idle new at started none = started_set new at (λ q u way other is under. started q u way is under) (λ way is. let bad : None ≡ Some way = sym none ∙ is in cc)

pub step_started : {calls : List Call} {old now : Memory} {port new : Port} → StepMade calls old now port new → (way : UnderWay) → new.under_way ≡ Some way → 0 < way.steps
step_started m way is = step_cases m (0 < way.steps) (λ g. let steps = ap (λ (v : UnderWay). v.steps) (some_same (sym g.way' ∙ is)) in omega (arith, steps))
    (λ r replied e. let bad : None ≡ Some way = sym e.none ∙ is in cc)

-- what a port has made in the end
at_rest_replied : (s : CoreState) → is_at_rest s.stage ≡ false → reply_of s ≡ None
at_rest_replied s due = at s.stage due
  where
    at : (g : Stage) → is_at_rest g ≡ false → reply_at g ≡ None
    at (Finished r) e = absurd (false≢true (sym e))
    at _ e = refl

unfinished_of : (s core : CoreState) (c : Called) (own : List Moment) → refusal_of s c.call ≡ None → Makes (begun_of s c.call) own core → c.began ≡ began_at 0 own → 0 < length own →
    reply_of core ≡ None → c.finish ≡ None → IsCallRun s c own (at_stage core Idle)
unfinished_of s core c [] begins makes began some none finish = absurd (omega (arith, some))
unfinished_of s core c (x ∷ own) begins makes began some none finish =
    record {
      begins = begins;
      last = core;
      makes = makes;
      began = began;
      answered = ap (option_map (λ (f : Finish). f.answer)) finish ∙ sym (ap (option_map (answer_for core)) none);
      ended = subst (λ (f : Option Finish). IfSome f (λ (g : Finish). g.ended ≡ last_behind x.behind own)) (sym finish) tt;
      rests = refl;
    }

steps_over : (z : Layout) (n : ℕ) (calls : List Call) (p : ℕ) (xs : List Moment) (x : Part) (port : Port) (way : Option UnderWay) → (w : PortMade z n calls p xs port) →
    MatchOption way (IsBetween x port.core) (IsCallUnderWay n calls x port.core port.finished.items) → ((v : UnderWay) → way ≡ Some v → 0 < v.steps) →
    MatchOption way ((w.own ≡ []) × (port.core ≡ w.at))
    (IsCallGoing n calls port.finished.items w.at port.core w.own) → (t : CoreState) ×
    AreStepsOf (fresh z p) (port.finished.items ++ left_over port (slice_get calls (length port.finished.items)) way) xs t
steps_over z n calls p xs x port None w f started idle =
    let is : w.done ≡ xs = sym (w.is ∙ ap (λ (l : List Moment). w.done ++ l) idle.0 ∙ append-nil w.done) in
    let none : port.finished.items ≡ port.finished.items ++ left_over port (slice_get calls (length port.finished.items)) None =
    sym (ap (λ (l : List Called). port.finished.items ++ l) (over_none port (slice_get calls (length port.finished.items))) ∙ append-nil port.finished.items) in
    (w.at, subst (λ (cs : List Called). AreStepsOf (fresh z p) cs xs w.at) none (subst (λ (l : List Moment). AreStepsOf (fresh z p) port.finished.items l w.at) is w.led))
steps_over z n calls p xs x port (Some way) w f started u =
    let c = unfinished_call port.number (length port.finished.items) u.call way in
    let some : 0 < length w.own = let here = started way refl in omega (arith, here, u.steps) in
    let call : IsCallRun w.at c w.own (at_stage port.core Idle) = unfinished_of w.at port.core c w.own u.begins u.makes (u.began ∙ own_stays n 0 w.own way u.steps (started way refl)) some
    (at_rest_replied port.core f.due) refl in
    let led = steps_push (fresh z p) w.at (at_stage port.core Idle) port.finished.items c w.done w.own w.led call u.steps in
    let over : c ∷ [] ≡ left_over port (slice_get calls (length port.finished.items)) (Some way) = sym (ap (λ (g : Option Call). left_over port g (Some way)) u.next) in (
      at_stage port.core Idle,
      subst (λ (cs : List Called). AreStepsOf (fresh z p) (port.finished.items ++ cs) xs (at_stage port.core Idle)) over
          (subst (λ (l : List Moment). AreStepsOf (fresh z p) (port.finished.items ++ c ∷ []) l (at_stage port.core Idle)) (sym w.is) led),
    )

pub steps_begun : {z : Layout} {o : Opening} {log : List Applied} {calls : List Call} {p : ℕ} {xs : List Moment} {x : Part} {port : Port} → PortFits o log calls p x port →
    PortMade z (length log) calls p xs port → ((v : UnderWay) → port.under_way ≡ Some v → 0 < v.steps) → (t : CoreState) × AreStepsOf (fresh z p) (begun_by calls port) xs t
steps_begun {z} {log} {calls} {p} {xs} {x} {port} f w started = steps_over z (length log) calls p xs x port port.under_way w f.way started w.going

-- a port has as many events as its calls have steps
pub steps_sum : (s t : CoreState) (cs : List Called) (xs : List Moment) → AreStepsOf s cs xs t → length xs ≡ sum_by (λ (c : Called). c.steps) cs
steps_sum s t [] xs w = ap length w.0
steps_sum s t (c ∷ cs) xs w =
    let rest = steps_sum (w.2) t cs (w.1) w.6 in
    let all : length xs ≡ length (w.0) + length (w.1) = ap length w.3 ∙ length-append (w.0) (w.1) in
    let sum = sum_by-cons (λ (d : Called). d.steps) c cs in
    let one = w.4 in
    omega (arith, rest, all, sum, one)

moment_ports : (m n q : ℕ) (es : List Event) → length (filter (λ (x : Moment). x.event.port == q) (moments_from m n es)) ≡ events_in q (ports_of es)
moment_ports m n q [] = refl
moment_ports m n q (e ∷ es) = same_length (e.port == q) (record { event = e; before = n; behind = n + adds m e }) e.port
    (filter (λ (x : Moment). x.event.port == q) (moments_from m (n + adds m e) es)) (filter (λ r. r == q) (ports_of es)) (moment_ports m (n + adds m e) q es)
  where
    same_length : (b : Bool) (x : Moment) (p : ℕ) (xs : List Moment) (ps : List ℕ) → length xs ≡ length ps → length (if b then x ∷ xs else xs) ≡ length (if b then p ∷ ps else ps)
    same_length true x p xs ps same = ap suc same
    same_length false x p xs ps same = same

pub events_steps : (s t : CoreState) (m q : ℕ) (es : List Event) (cs : List Called) → AreStepsOf s cs (moments_by m q es) t → sum_by (λ (c : Called). c.steps) cs ≡ events_in q (ports_of es)
events_steps s t m q es cs w = sym (steps_sum s t cs (moments_by m q es) w) ∙ moment_ports m 0 q es

-- no other port has events
past_moments : (m n q k : ℕ) (es : List Event) → k ≤ q → AllByRecursion (λ (e : Event). e.port < k) es → filter (λ (x : Moment). x.event.port == q) (moments_from m n es) ≡ []
past_moments m n q k [] past w = refl
past_moments m n q k (e ∷ es) past w =
    let away : e.port ≢ q = λ h. let below = w.0 in omega (arith, below, past, h) in
    ap (λ (b : Bool). if b then (record { event = e; before = n; behind = n + adds m e } ∷ filter (λ (x : Moment). x.event.port == q) (moments_from m (n + adds m e) es))
    else filter (λ (x : Moment). x.event.port == q) (moments_from m (n + adds m e) es)) (ne_eqb e.port q away)
    ∙ past_moments m (n + adds m e) q k es past w.1

pub none_moments : (m q k : ℕ) (es : List Event) → k ≤ q → AllByRecursion (λ (e : Event). e.port < k) es → moments_by m q es ≡ []
none_moments m q k es past w = past_moments m 0 q k es past w

-- the last call with a step
pub last_step : (cs : List Called) (c : Called) → 0 < c.steps → EndInStep (cs ++ c ∷ [])
last_step [] c some = some
last_step (d ∷ []) c some = some
last_step (d ∷ e ∷ cs) c some = last_step (e ∷ cs) c some

pub ending_but : (ports : List Port) (i : ℕ) (new : Port) (q : ℕ) → q ≢ i → StopsAtStep ports q → StopsAtStep (slice_set ports i new) q
ending_but ports i new q other ends u is none = ends u (sym (get_set_other ports i q new other) ∙ is) none

pub ending_with : {plans : List (List Call)} {ports : List Port} {i : ℕ} {calls : List Call} {port : Port} (new : Port) → PortAt plans ports i calls port →
    (new.under_way ≡ None → EndInStep new.finished.items) → (q : ℕ) → (q ≢ i → StopsAtStep ports q) → StopsAtStep (slice_set ports i new) q
ending_with {ports} {i} new at own q ends = port_set ports i new at.is q (λ (u : Port). u.under_way ≡ None → EndInStep u.finished.items) (λ same. own) ends

pub step_ending : {calls : List Call} {old now : Memory} {port new : Port} → StepMade calls old now port new → new.under_way ≡ None → EndInStep new.finished.items
step_ending {old} {now} {port} {new} m none = step_cases m (EndInStep new.finished.items) (λ g. let bad : None ≡ Some (one_step_more m.way) = sym none ∙ g.way' in cc)
    (λ r replied e. subst EndInStep (sym e.finished) (last_step port.finished.items
    (ended_call port.number (length port.finished.items) e.call (one_step_more m.way) (length now.history.items) (answer_for (core_behind old m.step port) r) e.note) (omega arith)))

-- what a port lists ends in a step
ending_over : (ports : List Port) (q : ℕ) (port : Port) (call : Option Call) (way : Option UnderWay) → port.under_way ≡ way → slice_get ports q ≡ Some port → StopsAtStep ports q →
    ((v : UnderWay) → port.under_way ≡ Some v → 0 < v.steps) → (IsSome way → IsSome call) → EndInStep (port.finished.items ++ left_over port call way)
ending_over ports q port None None is t ends started some = subst EndInStep (sym (append-nil port.finished.items)) (ends port t is)
ending_over ports q port (Some c) None is t ends started some = subst EndInStep (sym (append-nil port.finished.items)) (ends port t is)
ending_over ports q port None (Some way) is t ends started some = let bad : false ≡ true = some refl in absurd (false≢true bad)
ending_over ports q port (Some c) (Some way) is t ends started some = last_step port.finished.items (unfinished_call port.number (length port.finished.items) c way) (started way is)

pub ending_begun : {o : Opening} {log : List Applied} {p : ℕ} {x : Part} {plans : List (List Call)} {ports : List Port} {q : ℕ} {calls : List Call} {port : Port} → PortFits o log calls p x port →
    PortAt plans ports q calls port → StopsAtStep ports q → ((v : UnderWay) → port.under_way ≡ Some v → 0 < v.steps) → EndInStep (begun_by calls port)
ending_begun {log} {x} {ports} {q} {calls} {port} w at ends started =
    ending_over ports q port (slice_get calls (length port.finished.items)) port.under_way refl at.is ends started (next_is port.under_way w.way)
  where
    next_is : (way : Option UnderWay) → MatchOption way (IsBetween x port.core) (IsCallUnderWay (length log) calls x port.core port.finished.items) → IsSome way →
        IsSome (slice_get calls (length port.finished.items))
    next_is None f some = absurd (false≢true some)
    next_is (Some way) f some = ap is_some f.next
