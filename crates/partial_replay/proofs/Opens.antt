-- A replay as it opens, and what it lists in the end.
use Rattle.partial_replay.proofs.{Common.{ℕ, zero, suc, ◌^◌, append_assoc, ◌≡◌, ◌+◌, ◌<◌, ◌≤◌, ◌++◌, List, [], ◌∷◌, length, take, slice_index_or, Option, Some, None, MatchOption, slice_get, refl, sym, ◌∙◌, ap, subst, arith, map, IfSome, AllByRecursion, Opening, Call, Called, LegalNotes, seen_by, places_written, Layout, IsLayout, pool_base, AreOpeningWords, CoreState, fresh, IsSound, rests_are_sound, Part, fresh_parts, IsBetween, IsMarkedLike, opens_lawful, Port, UnderWay, unfinished_call, AreFinished, IsCallUnderWay, PortFits, notes_in, ends_of, IsCallGoing, HasTurned, steps_under_way, PortsFit, IsRunOf, FreshFrom, AreFreshPorts, AreListed, ArePlans, left_over, calls_in, ArePortsMade, AreStarted, IsSome, zip, append-nil, Applied, HasLeastPlace, Moment, AreStepsOf, BeginInTurns, StopsAtStep, steps_in, EndInStep, AreFew, place_below, filter_map, Event, Leads, Lawful, ReplayState, unvalued, event_entry, moments_by, no_ports, first_port, some_same, PortAt}, PortLaws.{some_is, under_way}}

-- one fresh port more
pub fresh_push : (z : Layout) (p : ℕ) (ports : List Port) (port : Port) → FreshFrom z p ports → port.number ≡ p + length ports → port.core ≡ fresh z port.number → port.finished.items ≡ [] →
    port.under_way ≡ None → FreshFrom z p (ports ++ port ∷ [])
fresh_push z p [] port w number core finished none =
    let is : port.number ≡ p = omega (arith, number) in
    (is, core ∙ ap (fresh z) is, finished, none, tt)
fresh_push z p (x ∷ ports) port w number core finished none = (w.0, w.1, w.2, w.3, fresh_push z (p + 1) ports port w.4 (omega (arith, number)) core finished none)

fresh_fits : (z : Layout) (o : Opening) (calls : List Call) (p : ℕ) (port : Port) → IsLayout z → z.m ≡ length o.values → port.number ≡ p → port.core ≡ fresh z p → port.finished.items ≡ [] →
    port.under_way ≡ None → PortFits o [] calls p (record { seen = []; notes = []; begun = fresh z p; kept = []; since = 0; past = 0 }) port
fresh_fits z o calls p port layout m number core finished none =
    let x : Part = record { seen = []; notes = []; begun = fresh z p; kept = []; since = 0; past = 0 } in
    record {
      number = number;
      part = refl;
      sizes = ap (λ (s : CoreState). s.sizes.m) core ∙ m;
      finished = subst (AreFinished 0 p 0 0) (sym finished) tt;
      legal = subst (λ (d : List Called). LegalNotes o [] p 0 (notes_in d)) (sym finished) tt;
      shown = subst (λ (d : List Called). seen_by 0 (notes_in d) ≤ ends_of 0 d) (sym finished) (omega arith);
      written = ap (λ (d : List Called). places_written (notes_in d)) finished;
      made = subst (λ (d : List Called). map (λ (c : Called). c.call) d ≡ take (length d) calls) (sym finished) refl;
      few = let n : length port.finished.items ≡ 0 = ap length finished in omega (arith, n);
      bounded = subst (AreFew port.core.sizes) (sym finished) tt;
      least = subst (AllByRecursion (HasLeastPlace o [])) (sym finished) tt;
      way = subst (λ (f : Option UnderWay). MatchOption f (IsBetween x port.core) (IsCallUnderWay 0 calls x port.core port.finished.items)) (sym none) (record {
        rest = refl;
        like = subst (λ (s : CoreState). IsMarkedLike (fresh z p) s) (sym core) (record { sizes = refl; port = refl; pool = refl; slots = refl; lists = refl; spare = refl });
        idle = ap (λ (s : CoreState). s.stage) core;
        sound = subst IsSound (sym core) (rests_are_sound.fresh z p layout);
      });
    }

fresh_ports_fit : (z : Layout) (o : Opening) (p : ℕ) (plans : List (List Call)) (ports : List Port) → IsLayout z → z.m ≡ length o.values → FreshFrom z p ports → length ports ≡ length plans →
    PortsFit o [] p plans (fresh_parts z p (length plans)) ports
fresh_ports_fit z o p [] [] layout m w n = no_ports
fresh_ports_fit z o p [] (t ∷ ports) layout m w n = absurd (omega (arith, n))
fresh_ports_fit z o p (c ∷ plans) [] layout m w n = absurd (omega (arith, n))
fresh_ports_fit z o p (c ∷ plans) (t ∷ ports) layout m w n = first_port (fresh_fits z o c p t layout m w.0 w.1 w.2 w.3) (fresh_ports_fit z o (p + 1) plans ports layout m w.4 (omega (arith, n)))

fresh_at : (z : Layout) (p i : ℕ) (ports : List Port) (port : Port) → FreshFrom z p ports → slice_get ports i ≡ Some port → (port.core ≡ fresh z (p + i)) × (port.finished.items ≡ []) ×
    (port.under_way ≡ None)
fresh_at z p i [] port w t = let bad : None ≡ Some port = t in cc
fresh_at z p zero (u ∷ ports) port w t =
    let same : u ≡ port = cc in
    let here : p ≡ p + 0 = omega arith in
    (ap (λ (v : Port). v.core) (sym same) ∙ w.1 ∙ ap (fresh z) here, ap (λ (v : Port). v.finished.items) (sym same) ∙ w.2, ap (λ (v : Port). v.under_way) (sym same) ∙ w.3)
fresh_at z p (suc i) (u ∷ ports) port w t =
    let f = fresh_at z (p + 1) i ports port w.4 t in
    let next : p + 1 + i ≡ p + suc i = omega arith in
    (f.0 ∙ ap (fresh z) next, f.1, f.2)

-- fresh ports have made no call
fresh_made : (plans : List (List Call)) (s : ReplayState) → s.memory.trace ≡ [] → FreshFrom s.sizes 0 s.ports → ArePortsMade plans s
fresh_made plans s none w q calls port at =
    let f = fresh_at s.sizes 0 q s.ports port w at.is in
    let here : 0 + q ≡ q = omega arith in
    let core : port.core ≡ fresh s.sizes q = f.0 ∙ ap (fresh s.sizes) here in
    let nil : List Moment = [] in
    record {
      done = [];
      own = [];
      at = fresh s.sizes q;
      is = ap (moments_by s.sizes.m q) none;
      led = subst (λ (d : List Called). AreStepsOf (fresh s.sizes q) d [] (fresh s.sizes q)) (sym f.1) (refl, refl);
      going = subst (λ (g : Option UnderWay). MatchOption g ((nil ≡ []) × (port.core ≡ fresh s.sizes q))
          (IsCallGoing (length s.memory.history.items) calls port.finished.items (fresh s.sizes q) port.core [])) (sym f.2) (refl, core);
    }

pub fresh_started : (z : Layout) (ports : List Port) → FreshFrom z 0 ports → AreStarted ports
fresh_started z ports w q port way t is = let f = fresh_at z 0 q ports port w t in let bad : None ≡ Some way = sym f.2 ∙ is in cc

pub fresh_ending : (z : Layout) (ports : List Port) → FreshFrom z 0 ports → (q : ℕ) → StopsAtStep ports q
fresh_ending z ports w q port t none = let f = fresh_at z 0 q ports port w t in subst EndInStep (sym f.1) tt

pub fresh_turned : (z : Layout) (ports : List Port) → FreshFrom z 0 ports → (q : ℕ) (calls : List Call) (port : Port) → slice_get ports q ≡ Some port → HasTurned 0 calls [] port
fresh_turned z ports w q calls port t =
    let nil : List ℕ = [] in
    let f = fresh_at z 0 q ports port w t in
    let none : steps_in port.finished.items ≡ 0 = ap steps_in f.1 in
    let idle : steps_under_way port.under_way ≡ 0 = ap steps_under_way f.2 in
    record {
      finished = subst (λ (l : List Called). BeginInTurns [] 0 l) (sym f.1) tt;
      turns = λ less. omega (arith, none, idle);
      way = subst (λ (v : Option UnderWay). IfSome v (λ (u : UnderWay). slice_get nil (steps_in port.finished.items) ≡ Some u.began)) (sym f.2) tt;
    }

-- a replay opens lawful
pub opens_run : (plans : List (List Call)) (s : ReplayState) → IsLayout s.sizes → length s.opening.values ≡ s.sizes.m → s.opening.first ≡ pool_base s.sizes →
    AreOpeningWords s.sizes s.opening.values s.memory.words → s.memory.history.items ≡ [] → s.memory.trace ≡ [] → length plans ≤ 64 → AreFreshPorts s.sizes (length plans) s.ports →
    IsRunOf plans s
opens_run plans s sizes values first opening empty none few fresh =
    let words = s.memory.words in
    let parts = fresh_parts s.sizes 0 (length plans) in
    record {
      parts = parts;
      opened = words;
      opens = opening;
      lawful = subst (λ (h : List Applied). Lawful s.sizes s.opening words parts h) (sym empty)
          (opens_lawful s.sizes s.opening words (length plans) (record { sizes = sizes; values = values; stamps = first; words = opening }) (omega (arith, few)));
      fit = subst (λ (h : List Applied). PortsFit s.opening h 0 plans parts s.ports) (sym empty) (fresh_ports_fit s.sizes s.opening 0 plans s.ports sizes (sym values) fresh.1 fresh.0);
      leads = subst (λ (es : List Event). Leads words es words) (sym none) refl;
      entries = ap (filter_map (event_entry s.sizes.m (λ _. 0))) none ∙ sym (ap (map unvalued) empty);
      senders = subst (AllByRecursion (λ (e : Event). e.port < length plans)) (sym none) tt;
      made = fresh_made plans s none fresh.1;
    }

-- the ports of a run list their calls
pub run_listed : {o : Opening} {log : List Applied} {q : ℕ} {plans : List (List Call)} {parts : List Part} {ports : List Port} (m : ℕ) → PortsFit o log q plans parts ports → ArePlans m plans →
    AreListed plans ports
run_listed m no_ports served = tt
run_listed m (first_port {calls = c} {port = t} f rest) served = (
  served.0.0,
  λ some. let way = some_is t.under_way some in let u = under_way f way.1 in place_below c (length t.finished.items) u.call u.next,
  run_listed m rest served.1,
)

-- the port at a place with its calls
pub pair_at : (ports : List Port) (plans : List (List Call)) (n : ℕ) (port : Port) (calls : List Call) → (n < length (zip ports plans)) × ((port, calls) ≡ slice_index_or (zip ports plans) n (port, calls)) →
    PortAt plans ports n calls port
pair_at [] plans n port calls here = let below = here.0 in absurd (omega (arith, below))
pair_at (u ∷ ports) [] n port calls here = let below = here.0 in absurd (omega (arith, below))
pair_at (u ∷ ports) (d ∷ plans) zero port calls here = record { plan = ap (λ (x : Port × List Call). Some x.1) (sym here.1); is = ap (λ (x : Port × List Call). Some x.0) (sym here.1) }
pair_at (u ∷ ports) (d ∷ plans) (suc n) port calls here =
    let below = here.0 in let at = pair_at ports plans n port calls (omega (arith, below), here.1) in record { plan = at.plan; is = at.is }

-- a call under way is one of the port's calls, and its number fits
pub listed_at_place : (plans : List (List Call)) (ports : List Port) (n : ℕ) {calls : List Call} {port : Port} → AreListed plans ports → PortAt plans ports n calls port →
    (length calls < 2 ^ 32) × (IsSome port.under_way → length port.finished.items < length calls)
listed_at_place [] ports n {calls} w at = let bad : None ≡ Some calls = at.plan in cc
listed_at_place (d ∷ plans) [] n w at = absurd w
listed_at_place (d ∷ plans) (u ∷ ports) zero {calls} w at = (
  subst (λ (e : List Call). length e < 2 ^ 32) (some_same at.plan) w.0,
  subst (λ (v : Port). IsSome v.under_way → length v.finished.items < length calls) (some_same at.is)
      (subst (λ (e : List Call). IsSome u.under_way → length u.finished.items < length e) (some_same at.plan) w.1),
)
listed_at_place (d ∷ plans) (u ∷ ports) (suc n) w at = listed_at_place plans ports n w.2 (record { plan = at.plan; is = at.is })

pub length-zip : (plans : List (List Call)) (ports : List Port) → AreListed plans ports → length (zip ports plans) ≡ length ports
length-zip [] [] w = refl
length-zip (d ∷ plans) (u ∷ ports) w = ap suc (length-zip plans ports w.2)
length-zip [] (u ∷ ports) w = absurd w
length-zip (d ∷ plans) [] w = absurd w

pub none_in : (plans : List (List Call)) → calls_in plans [] ≡ []
none_in [] = refl
none_in (d ∷ plans) = refl

-- one port's calls after those of the ports in front of it
calls_next : (plans : List (List Call)) (ports : List Port) (n : ℕ) {calls : List Call} {port : Port} → PortAt plans ports n calls port →
    calls_in plans (take (suc n) ports) ≡ (calls_in plans (take n ports) ++ port.finished.items) ++ left_over port (slice_get calls (length port.finished.items)) port.under_way
calls_next [] ports n {calls} at = let bad : None ≡ Some calls = at.plan in cc
calls_next (d ∷ plans) [] n {port} at = let bad : None ≡ Some port = at.is in cc
calls_next (d ∷ plans) (u ∷ ports) zero {port} at =
    ap (λ (l : List Called). (u.finished.items ++ left_over u (slice_get d (length u.finished.items)) u.under_way) ++ l) (none_in plans)
    ∙ append-nil (u.finished.items ++ left_over u (slice_get d (length u.finished.items)) u.under_way)
    ∙ ap (λ (v : Port). v.finished.items ++ left_over v (slice_get d (length v.finished.items)) v.under_way) (some_same at.is)
    ∙ ap (λ (e : List Call). port.finished.items ++ left_over port (slice_get e (length port.finished.items)) port.under_way) (some_same at.plan)
calls_next (d ∷ plans) (u ∷ ports) (suc n) {calls} {port} at =
    let over = left_over u (slice_get d (length u.finished.items)) u.under_way in
    let own = left_over port (slice_get calls (length port.finished.items)) port.under_way in
    let front = calls_in plans (take n ports) in
    ap (λ (l : List Called). (u.finished.items ++ over) ++ l) (calls_next plans ports n (record { plan = at.plan; is = at.is }))
    ∙ sym (append_assoc (u.finished.items ++ over) (front ++ port.finished.items) own)
    ∙ ap (λ (l : List Called). l ++ own) (sym (append_assoc (u.finished.items ++ over) front port.finished.items))

pub calls_more : {plans : List (List Call)} {ports : List Port} {n : ℕ} {calls : List Call} {port : Port} (k : ℕ) (over so_far now : List Called) → k ≡ n + 1 → PortAt plans ports n calls port →
    so_far ≡ calls_in plans (take n ports) → over ≡ left_over port (slice_get calls (length port.finished.items)) port.under_way → now ≡ (so_far ++ port.finished.items) ++ over →
    now ≡ calls_in plans (take k ports)
calls_more {plans} {ports} {n} {calls} {port} k over so_far now long at told o is =
    let one : suc n ≡ k = omega (arith, long) in
    is
    ∙ ap (λ (l : List Called). (so_far ++ port.finished.items) ++ l) o
    ∙ ap (λ (l : List Called). (l ++ port.finished.items) ++ left_over port (slice_get calls (length port.finished.items)) port.under_way) told
    ∙ sym (calls_next plans ports n at)
    ∙ ap (λ i. calls_in plans (take i ports)) one

-- the call that a port leaves unfinished
pub over_is : (port : Port) (calls : List Call) (way : UnderWay) (call : Call) (c : Called) → port.under_way ≡ Some way → slice_get calls (length port.finished.items) ≡ Some call →
    c ≡ unfinished_call port.number (length port.finished.items) call way → c ∷ [] ≡ left_over port (slice_get calls (length port.finished.items)) port.under_way
over_is port calls way call c under get is =
    ap (λ (d : Called). d ∷ []) is
    ∙ ap (λ (f : Option Call). left_over port f (Some way)) (sym get)
    ∙ ap (λ (f : Option UnderWay). left_over port (slice_get calls (length port.finished.items)) f) (sym under)

pub over_none : (port : Port) (call : Option Call) → left_over port call None ≡ []
over_none port None = refl
over_none port (Some c) = refl

pub none_over : (port : Port) (call : Option Call) → port.under_way ≡ None → [] ≡ left_over port call port.under_way
none_over port call none = sym (over_none port call) ∙ ap (left_over port call) (sym none)
