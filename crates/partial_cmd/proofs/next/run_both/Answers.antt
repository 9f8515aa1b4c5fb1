use Rattle.partial_cmd.proofs.{Common.{◌≤◌, length, ap, subst, ◌∙◌, opening_is, Layout, pool_base, extended_values, report_of}, Nexts.{both_alike, both_reported}}
use Rattle.partial_cmd.proofs.next.run_both.Goals as goal

pub returns : goal.returns
returns g c =
    let p = c.args.plan.now in
    let q = c.args.next.now in
    let one = c.in_ok-memory.ensures in
    let other = c.in_ok-memory-2.ensures in
    let first = report_of c.in_ok-first.first in
    let second = report_of c.in_ok-second.second in
    let opening = opening_is c.in_ok-memory.memory.about.opening _ _ (one.values ∙ c.initial.ensures.value) (one.first ∙ ap pool_base c.sizes.ensures.value) in
    let goes = opening_is c.in_ok-memory-2.memory.about.opening _ _ (other.values ∙ ap (λ (z : Layout). extended_values z.m first.values.items) c.sizes-2.ensures.value)
    (other.first ∙ ap pool_base c.sizes-2.ensures.value) in
    both_alike p q c.into_report.result c.into_report-2.result first second c.into_report.ensures c.into_report-2.ensures
    (both_reported p q c.in_ok-memory.memory.about.opening c.in_ok-memory-2.memory.about.opening first second opening c.ports.ensures.lawful c.in_ok-first.ensures
    (subst (λ (z : Layout). length first.values.items ≤ z.m) c.sizes-2.ensures.value other.fits) goes other.continues c.in_ok-second.ensures)
