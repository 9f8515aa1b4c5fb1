-- The calls of a plan, and the report of the workers that made them.
use Rattle.partial_cmd.proofs.Common.{ℕ, ◌≡◌, ◌<◌, ◌^◌, Result, Ok, Err, List, [], ◌∷◌, length, sym, subst, IfOk, Opening, Call, IsCall, IsPlan, PlanView, RunReport, plans_have_few_calls, IsReportFrom, IsReportOf, run_opening, report_of}
use Rattle.std.specs.List.{AllByRecursion}
use Rattle.partial_workers.specs.declared.error.RunError.{RunError}
use Rattle.partial_workers.specs.declared.workers.Ran.{Ran}
use Rattle.partial_workers.specs.Answered.{AreMakable, AreRight, IsCallWithin}

-- a report over the opening's values is one over the same by another name
pub reported_of : (o : Opening) (p : PlanView) (report : RunReport) → o ≡ run_opening p → IsReportFrom o p report → IsReportOf p report
reported_of o p report is w = subst (λ (x : Opening). IsReportFrom x p report) is w

-- a memory of the plan's sizes can be asked for its calls
call_within : (m : ℕ) (c : Call) → IsCall m c → IsCallWithin m c
call_within m (Call.Update j v) w = tt
call_within m (Call.Scan js) w = w.0
call_within m (Call.Read j) w = tt
call_within m (Call.UpdateIf j s v) w = tt

calls_within : (m : ℕ) (cs : List Call) → AllByRecursion (IsCall m) cs → AllByRecursion (IsCallWithin m) cs
calls_within m [] w = tt
calls_within m (c ∷ cs) w = (call_within m c w.0, calls_within m cs w.1)

calls_makable : (m : ℕ) (plan : List (List Call)) → AllByRecursion (λ cs. length cs < 2 ^ 32) plan →
    AllByRecursion (λ cs. AllByRecursion (IsCall m) cs) plan → AreMakable m plan
calls_makable m [] few w = tt
calls_makable m (cs ∷ plan) few w = ((few.0, calls_within m cs w.0), calls_makable m plan few.1 w.1)

pub plan_makable : (m : ℕ) (p : PlanView) (plan : List (List Call)) → IsPlan p → m ≡ p.sizes.m → plan ≡ p.ports → AreMakable m plan
plan_makable m p plan lawful sizes is =
    subst (λ k. AreMakable k plan) (sym sizes) (subst (AreMakable p.sizes.m) (sym is) (calls_makable p.sizes.m p.ports (plans_have_few_calls p lawful) lawful.calls))

-- workers that made the calls of the plan
pub plan_ran : (o : Opening) (p : PlanView) (plan : List (List Call)) (r : Result Ran RunError) → plan ≡ p.ports → IfOk r (λ ran. AreRight o plan ran.answers.items ran.closed.values.items) →
    IfOk r (λ ran. IsReportFrom o p (report_of ran))
plan_ran o p plan (Ok ran) is w = subst (λ (l : List (List Call)). AreRight o l ran.answers.items ran.closed.values.items) is w
plan_ran o p plan (Err e) is w = tt
