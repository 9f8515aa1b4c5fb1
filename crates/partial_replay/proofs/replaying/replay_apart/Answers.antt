use Rattle.partial_replay.proofs.{Common.{ℕ, ◌≡◌, ◌++◌, ◌∙◌, Bool, false, if◌then◌else◌, List, [], length, slice_index_or, Option, Some, None, map, take, ap, subst, sym, arith, ◌<◌, ◌≤◌, IsLayout, range_with_len, take_all, false≢true, Call, Run, GivesOutcome, ArePlans, StopAtSteps, TurnsMade, IsReplayOf, AllByRecursion-get, IsTurnEntry, Layout, ports_of, so_many, to_its_end, turns_of, HasReplayed, replayed_view}, Plans.are_plans, PortLaws.get_is, Replays.replay_told, RunTurns.next_turns, TurnLaws.{next_steps, all_steps, next_end, ending_next}}
use Rattle.partial_replay.specs.Inner.RunState.{IsReplay}
use Rattle.partial_replay.proofs.replaying.replay_apart.Goals.{then-rest+else-loop-p-then-rest-test, else-rest}
use Rattle.partial_replay.proofs.replaying.replay_apart.Goals as goal

-- the plan's calls are ones that the machines of such a run serve
pub open-requires-clause-plans : goal.open-requires-clause-plans
open-requires-clause-plans c =
    let p = c.args.plan.now in
    subst (λ (z : Layout). ArePlans z.m c.ports-plans.result.now) (sym c.sizes.ensures.value) (subst (ArePlans p.sizes.m) (sym c.ports-plans.ensures.value) (are_plans p c.ports-plans.ensures.lawful))

pub open-requires-clause-sizes : goal.open-requires-clause-sizes
open-requires-clause-sizes c = subst IsLayout (sym c.sizes.ensures.value) c.ports-plans.ensures.lawful.sizes

pub open-requires-clause-values : goal.open-requires-clause-values
open-requires-clause-values c = ap length c.initial.ensures.value ∙ c.ports-plans.ensures.lawful.initial ∙ ap (λ (z : Layout). z.m) (sym c.sizes.ensures.value)

pub open-requires-clause-ports : goal.open-requires-clause-ports
open-requires-clause-ports c = subst (λ (l : List (List Call)). length l ≤ 64) (sym c.ports-plans.ensures.value) c.ports-plans.ensures.lawful.few_ports

pub turns-requires-clause-between : goal.turns-requires-clause-between
turns-requires-clause-between c = c.loop-p.invariant.replayed.between

pub to_the_end-requires-clause-between : goal.to_the_end-requires-clause-between
to_the_end-requires-clause-between c = c.loop-p-then-rest.invariant.between

pub to_the_end-requires-clause-port : goal.to_the_end-requires-clause-port
to_the_end-requires-clause-port c = c.loop-p-then-rest-test.true

pub into_replayed-requires : goal.into_replayed-requires
into_replayed-requires c =
    elim c.if-rest.branch [
      | then-rest+else-loop-p-then-rest-test w ↦ subst (IsReplay c.ports-plans.result.now) (sym w.run-is) w.loop-p-then-rest.invariant.between.replay
      | else-rest w ↦ subst (IsReplay c.ports-plans.result.now) (sym w.run-is) c.loop-p.invariant.replayed.between.replay
    ]

pub returns : goal.returns
returns c =
    let p = c.args.plan.now in
    let plans = c.ports-plans.result.now in
    let outcome = replayed_view c.in_ok-into_replayed.field-0 in
    let is = c.ports-plans.ensures.value in
    let ends_told : (run : Run) → c.if-rest.run ≡ run → HasReplayed p plans (turns_of p) run → (p.rest ≡ false → StopAtSteps p.steps run) → IsReplayOf p outcome = λ run same w ends.
    replay_told p run outcome (subst (λ (l : List (List Call)). HasReplayed p l (turns_of p) run) is w) ends
    (subst (λ (l : List (List Call)). GivesOutcome l run outcome) is (subst (λ (v : Run). GivesOutcome plans v outcome) same c.in_ok-into_replayed.ensures)) in
    let steps : length c.steps-p-items.result.now ≡ length p.steps = ap length c.steps-p-items.ensures.value in
    let front = all_steps p.steps c.loop-p.p-index (omega (arith, c.loop-p-test.false, steps)) in
    elim c.if-rest.branch [
      | then-rest+else-loop-p-then-rest-test w ↦
          let all : w.loop-p-then-rest.p ≡ length p.ports = (let n = ap length is in omega (arith, n, w.loop-p-then-rest-test.false, w.loop-p-then-rest.auto.p-end)) in
          let turns : map so_many p.steps ++ map to_its_end (range_with_len 0 w.loop-p-then-rest.p) ≡ turns_of p =
          ap (λ n. map so_many p.steps ++ map to_its_end (range_with_len 0 n)) all ∙ ap (λ (b : Bool). map so_many p.steps ++ (if b then map to_its_end (range_with_len 0 (length p.ports)) else []))
          w.if-rest.ensures.value in
          ends_told w.loop-p-then-rest.run w.run-is (subst (λ (es : List (ℕ × Option ℕ)). HasReplayed p plans es w.loop-p-then-rest.run) turns w.loop-p-then-rest.invariant)
          (λ no. absurd (false≢true (sym no ∙ sym w.if-rest.ensures.value)))
      | else-rest w ↦
          let i = c.loop-p.invariant in
          let turns : map so_many (take c.loop-p.p-index p.steps) ≡ turns_of p = front
          ∙ ap (λ (b : Bool). map so_many p.steps ++ (if b then map to_its_end (range_with_len 0 (length p.ports)) else []))
          w.if-rest.ensures.value in
          ends_told c.loop-p.run w.run-is (subst (λ (es : List (ℕ × Option ℕ)). HasReplayed p plans es c.loop-p.run) turns i.replayed)
          (λ no. subst (λ (l : List (ℕ × ℕ)). StopAtSteps l c.loop-p.run) (take_all c.loop-p.p-index p.steps (omega (arith, c.loop-p-test.false, steps))) i.ending)
    ]

pub loop-p-init : goal.loop-p-init
loop-p-init c =
    let run = c.in_ok-run.ensures in
    record {
      replayed = record {
        between = run.between;
        sizes = run.opening.0 ∙ c.sizes.ensures.value;
        values = run.opening.1 ∙ c.initial.ensures.value;
        made = ap ports_of run.trace;
        begun = run.begun;
      };
      ending = run.ending;
    }

pub turns-requires-clause-port : goal.turns-requires-clause-port
turns-requires-clause-port c =
    let p = c.args.plan.now in
    let i = c.loop-p.p-index in
    let is = c.steps-p-items.ensures.value in
    let many : length c.ports-plans.result.now ≡ length p.ports = ap length c.ports-plans.ensures.value in
    let steps : length c.steps-p-items.result.now ≡ length p.steps = ap length is in
    let below : i < length p.steps = omega (arith, c.loop-p-test.true, steps) in
    let here : (slice_index_or c.steps-p-items.result.now i (0, 0)).0 ≡ (slice_index_or p.steps i (0, 0)).0 = ap (λ (l : List (ℕ × ℕ)). (slice_index_or l i (0, 0)).0) is in
    let entry = AllByRecursion-get (IsTurnEntry (length p.ports)) p.steps i (slice_index_or p.steps i (0, 0)) c.ports-plans.ensures.lawful.steps (get_is p.steps i (0, 0) below) in
    let port = entry.0 in
    omega (arith, many, here, port)

pub loop-p-preserved : goal.loop-p-preserved
loop-p-preserved c =
    let plans = c.ports-plans.result.now in
    let run = c.loop-p.run in
    let new = c.turns.new.self in
    let old = c.loop-p.invariant in
    let i = c.loop-p.p-index in
    let is = c.steps-p-items.ensures.value in
    let p = c.args.plan.now in
    let steps : length c.steps-p-items.result.now ≡ length p.steps = ap length is in
    let below : i < length p.steps = omega (arith, c.loop-p-test.true, steps) in
    let e = slice_index_or p.steps i (0, 0) in
    let t : TurnsMade plans e.0 (Some e.1) run new = subst (λ (l : List (ℕ × ℕ)). TurnsMade plans (slice_index_or l i (0, 0)).0 (Some (slice_index_or l i (0, 0)).1) run new) is c.in_ok-turns.ensures.turns in
    record {
      replayed = subst (λ (es : List (ℕ × Option ℕ)). HasReplayed p plans es new) (sym (next_steps p.steps i e (get_is p.steps i (0, 0) below)))
          (next_turns e.0 (Some e.1) old.replayed c.in_ok-turns.ensures.between c.in_ok-turns.ensures.same t);
      ending = ending_next plans p.steps i run new below old.replayed.made old.ending t;
    }

pub loop-p-then-rest-init : goal.loop-p-then-rest-init
loop-p-then-rest-init c =
    let p = c.args.plan.now in
    let steps : length c.steps-p-items.result.now ≡ length p.steps = ap length c.steps-p-items.ensures.value in
    let front = all_steps p.steps c.loop-p.p-index (omega (arith, c.loop-p-test.false, steps)) in
    subst (λ (es : List (ℕ × Option ℕ)). HasReplayed p c.ports-plans.result.now es c.loop-p.run) front c.loop-p.invariant.replayed

pub loop-p-then-rest-preserved : goal.loop-p-then-rest-preserved
loop-p-then-rest-preserved c =
    let turns = c.in_ok-to_the_end.ensures in
    let next = next_end (map so_many c.args.plan.now.steps) c.loop-p-then-rest.p in
    subst (λ (es : List (ℕ × Option ℕ)). HasReplayed c.args.plan.now c.ports-plans.result.now es c.to_the_end.new.self) (sym next)
    (next_turns c.loop-p-then-rest.p None c.loop-p-then-rest.invariant turns.between turns.same turns.turns)
