-- The reports of two plans, of which the second goes on where the first ended.
use Rattle.partial_cmd.proofs.{Common.{◌≡◌, ◌≤◌, length, sym, subst, arith, Opening, IsPlan, PlanView, RunReport, Continues, ContinuesAll, IsReportFrom, IsReportOf, run_opening}, Reported.reported_of}
use Rattle.partial_cmd.specs.Next.{AreReports, next_opening}

pub both_reported : (p q : PlanView) (o next : Opening) (first second : RunReport) → o ≡ run_opening p → IsPlan p → IsReportFrom o p first → length first.values.items ≤ q.sizes.m →
    next ≡ next_opening q first.values.items → ContinuesAll first.values.items next → IsReportFrom next q second → AreReports p q first second
both_reported p q o next first second opening lawful one fits goes continues other =
    let here : IsReportOf p first = reported_of o p first opening one in
    record {
      enough = omega (arith, here.values.count, lawful.initial, fits);
      one = here;
      other = subst (λ (x : Opening). IsReportFrom x q second) goes other;
      continues = subst (Continues (run_opening p) here.log) goes (continues (run_opening p) here.log here.history here.values);
    }

-- the same of reports by other names
pub both_alike : (p q : PlanView) (a b first second : RunReport) → a ≡ first → b ≡ second → AreReports p q first second → AreReports p q a b
both_alike p q a b first second one other w = subst (λ (r : RunReport). AreReports p q r b) (sym one) (subst (AreReports p q first) (sym other) w)
