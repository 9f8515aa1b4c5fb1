use Rattle.std.proofs.Common.{rules, tests}
use Rattle.partial_cmd.proofs.{Common.{ap, sym, subst, ◌∙◌, opening_is, pool_base, IsReportFrom}, Reported.reported_of}
use Rattle.partial_cmd.proofs.workers.run_workers.Goals as goal

pub returns : goal.returns
returns g c =
    let p = c.args.plan.now in
    let o = c.in_ok-memory.memory.about.opening in
    let made = c.in_ok-memory.ensures in
    let report = c.into_report.result in
    reported_of o p report (opening_is o _ _ (made.values ∙ c.initial.ensures.value) (made.first ∙ ap pool_base c.sizes.ensures.value))
    (subst (IsReportFrom o p) (sym c.into_report.ensures) c.in_ok-run_plan.ensures)

pub run_plan-requires-clause-opened : goal.run_plan-requires-clause-opened
run_plan-requires-clause-opened g c = search (tests, rules)
