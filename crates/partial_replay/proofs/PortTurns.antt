-- A port begins its calls in its turns.
use Rattle.partial_replay.proofs.{Common.{ℕ, ◌≡◌, ◌+◌, ◌<◌, ◌++◌, List, [], ◌∷◌, length, slice_get, Option, Some, None, IfSome, sym, ◌∙◌, ap, subst, arith, append-nil, length_push, sum_by_push, Call, Called, slice_get_grows, slice_get_last, answer_for, Port, UnderWay, HasTurned, steps_under_way, one_step_more, ended_call, unfinished_call, StepMade, core_behind, left_over, BeginInTurns, steps_in, Memory}, PortLaws.step_cases, TurnLengths.{begin_longer, begin_push}, LegalOutcomes.begun_by}

way_longer : (ls more : List ℕ) (k : ℕ) (way : Option UnderWay) → IfSome way (λ (v : UnderWay). slice_get ls k ≡ Some v.began) → IfSome way (λ (v : UnderWay). slice_get (ls ++ more) k ≡ Some v.began)
way_longer ls more k None w = tt
way_longer ls more k (Some v) w = slice_get_grows ls more k v.began w

-- a turn comes
pub turn_comes : (calls : List Call) (ls : List ℕ) (n : ℕ) (port : Port) → HasTurned 0 calls ls port → HasTurned 1 calls (ls ++ n ∷ []) port
turn_comes calls ls n port w = record {
  finished = begin_longer ls (n ∷ []) 0 port.finished.items w.finished;
  turns = λ less. let all = w.turns less in length_push ls n ∙ omega (arith, all);
  way = way_longer ls (n ∷ []) (steps_in port.finished.items) port.under_way w.way;
}

-- a port that has made all its calls may have any turns more
pub turns_idle : (calls : List Call) (idle : ℕ) (ls more : List ℕ) (port : Port) → length port.finished.items ≡ length calls → HasTurned idle calls ls port → HasTurned 0 calls (ls ++ more) port
turns_idle calls idle ls more port all w = record {
  finished = begin_longer ls more 0 port.finished.items w.finished;
  turns = λ less. absurd (omega (arith, all, less));
  way = way_longer ls more (steps_in port.finished.items) port.under_way w.way;
}

-- the turn that has come is the one after the steps of the calls so far
turn_here : (ls : List ℕ) (n k : ℕ) → length (ls ++ n ∷ []) ≡ k + 1 → slice_get (ls ++ n ∷ []) k ≡ Some n
turn_here ls n k long = let last = length_push ls n in let same : length ls ≡ k = omega (arith, long, last) in ap (slice_get (ls ++ n ∷ [])) (sym same) ∙ slice_get_last ls n

none_under_way : (way : Option UnderWay) → way ≡ None → steps_under_way way ≡ 0
none_under_way way none = ap steps_under_way none

-- in that turn a call is finished as it is begun
pub turn_once : (calls : List Call) (ls : List ℕ) (n : ℕ) (port new : Port) (c : Called) → length port.finished.items < length calls → port.under_way ≡ None → new.under_way ≡ None →
    c.began ≡ n → c.steps ≡ 0 → new.finished.items ≡ port.finished.items ++ c ∷ [] → HasTurned 1 calls (ls ++ n ∷ []) port → HasTurned 1 calls (ls ++ n ∷ []) new
turn_once calls ls n port new c less none none' began steps finished w =
    let now = ls ++ n ∷ [] in
    let idle = none_under_way port.under_way none in
    let idle' = none_under_way new.under_way none' in
    let long : length now ≡ steps_in port.finished.items + 1 = let all = w.turns less in omega (arith, all, idle) in
    let here : slice_get now (0 + steps_in port.finished.items) ≡ Some c.began = let same : 0 + steps_in port.finished.items ≡ steps_in port.finished.items =
    omega arith in ap (slice_get now) same ∙ turn_here ls n (steps_in port.finished.items) long ∙ ap Some (sym began) in
    let sum : steps_in new.finished.items ≡ steps_in port.finished.items + c.steps = ap steps_in finished ∙ sum_by_push (λ (d : Called). d.steps) port.finished.items c in
    record {
      finished = subst (λ (l : List Called). BeginInTurns now 0 l) (sym finished) (begin_push now 0 port.finished.items c w.finished here);
      turns = λ more. omega (arith, long, sum, steps, idle');
      way = subst (λ (v : Option UnderWay). IfSome v (λ (u : UnderWay). slice_get now (steps_in new.finished.items) ≡ Some u.began)) (sym none') tt;
    }

-- in that turn a call begins that makes steps
pub turn_begins : (calls : List Call) (ls : List ℕ) (n : ℕ) (port new : Port) → length port.finished.items < length calls → port.under_way ≡ None →
    new.finished.items ≡ port.finished.items → new.under_way ≡ Some (record { began = n; steps = 0 }) → HasTurned 1 calls (ls ++ n ∷ []) port → HasTurned 1 calls (ls ++ n ∷ []) new
turn_begins calls ls n port new less none finished way w =
    let now = ls ++ n ∷ [] in
    let idle = none_under_way port.under_way none in
    let same : steps_in new.finished.items ≡ steps_in port.finished.items = ap steps_in finished in
    let made : steps_under_way new.under_way ≡ 0 = ap steps_under_way way in
    let long : length now ≡ steps_in port.finished.items + 1 = let all = w.turns less in omega (arith, all, idle) in
    record {
      finished = subst (λ (l : List Called). BeginInTurns now 0 l) (sym finished) w.finished;
      turns = λ more. omega (arith, long, same, made);
      way = subst (λ (v : Option UnderWay). IfSome v (λ (u : UnderWay). slice_get now (steps_in new.finished.items) ≡ Some u.began)) (sym way)
          (turn_here ls n (steps_in new.finished.items) (omega (arith, long, same)));
    }

-- in that turn a step is made
way_began : (ls : List ℕ) (k : ℕ) (found : Option UnderWay) (way : UnderWay) → found ≡ Some way → IfSome found (λ (v : UnderWay). slice_get ls k ≡ Some v.began) → slice_get ls k ≡ Some way.began
way_began ls k found way is w = subst (λ (v : Option UnderWay). IfSome v (λ (u : UnderWay). slice_get ls k ≡ Some u.began)) is w

pub turn_steps : {calls : List Call} {old now : Memory} {port new : Port} (ls : List ℕ) → length port.finished.items < length calls → StepMade calls old now port new → HasTurned 1 calls ls port →
    HasTurned 0 calls ls new
turn_steps {calls} {old} {now} {port} {new} ls less m w =
    let before : steps_under_way port.under_way ≡ m.way.steps = ap steps_under_way m.was in
    let began = way_began ls (steps_in port.finished.items) port.under_way m.way m.was w.way in
    step_cases m (HasTurned 0 calls ls new)
    (λ g.
    let same : steps_in new.finished.items ≡ steps_in port.finished.items = ap steps_in g.finished in
    let many : length new.finished.items ≡ length port.finished.items = ap length g.finished in
    let made : steps_under_way new.under_way ≡ m.way.steps + 1 = ap steps_under_way g.way' in
    record {
      finished = subst (λ (l : List Called). BeginInTurns ls 0 l) (sym g.finished) w.finished;
      turns = λ more. let all = w.turns (omega (arith, more, many)) in omega (arith, all, same, before, made);
      way = subst (λ (v : Option UnderWay). IfSome v (λ (u : UnderWay). slice_get ls (steps_in new.finished.items) ≡ Some u.began)) (sym g.way') (ap (slice_get ls) same ∙ began);
    })
    (λ r replied e.
    let c = ended_call port.number (length port.finished.items) e.call (one_step_more m.way) (length now.history.items) (answer_for (core_behind old m.step port) r) e.note in
    let sum : steps_in new.finished.items ≡ steps_in port.finished.items + (m.way.steps + 1) = ap steps_in e.finished ∙ sum_by_push (λ (d : Called). d.steps) port.finished.items c in
    let made = none_under_way new.under_way e.none in
    let place : 0 + steps_in port.finished.items ≡ steps_in port.finished.items = omega arith in
    record {
      finished = subst (λ (l : List Called). BeginInTurns ls 0 l) (sym e.finished) (begin_push ls 0 port.finished.items c w.finished (ap (slice_get ls) place ∙ began));
      turns = λ more. let all = w.turns less in omega (arith, all, sum, before, made);
      way = subst (λ (v : Option UnderWay). IfSome v (λ (u : UnderWay). slice_get ls (steps_in new.finished.items) ≡ Some u.began)) (sym e.none) tt;
    })

-- what a port lists in the end has begun in its turns
turn_over : (ls : List ℕ) (port : Port) (call : Option Call) (way : Option UnderWay) → BeginInTurns ls 0 port.finished.items →
    IfSome way (λ (v : UnderWay). slice_get ls (steps_in port.finished.items) ≡ Some v.began) → BeginInTurns ls 0 (port.finished.items ++ left_over port call way)
turn_over ls port None way finished w = subst (BeginInTurns ls 0) (sym (append-nil port.finished.items)) finished
turn_over ls port (Some call) None finished w = subst (BeginInTurns ls 0) (sym (append-nil port.finished.items)) finished
turn_over ls port (Some call) (Some way) finished w = begin_push ls 0 port.finished.items (unfinished_call port.number (length port.finished.items) call way) finished
    (let same : 0 + steps_in port.finished.items ≡ steps_in port.finished.items = omega arith in ap (slice_get ls) same ∙ w)

pub turns_over : (calls : List Call) (ls : List ℕ) (port : Port) → HasTurned 0 calls ls port → BeginInTurns ls 0 (begun_by calls port)
turns_over calls ls port w = turn_over ls port (slice_get calls (length port.finished.items)) port.under_way w.finished w.way
