use Rattle.std.proofs.Common.{rules, tests}
use Rattle.partial_cmd.proofs.Common.{refl}
use Rattle.partial_cmd.proofs.next.execute_next.Goals as goal

pub returns-in_err-write_reports-clause-part : goal.returns-in_err-write_reports-clause-part
returns-in_err-write_reports-clause-part g c _ =
    let part = c.in_err-write_reports.ensures.part in (
      _,
      part.0,
      (
        c.in_ok-plan.plan,
        c.in_ok-next.next,
        c.in_ok-first.first,
        c.in_ok-first.second,
        record { plan = c.in_ok-plan.ensures.lawful; read = c.in_ok-plan.ensures.found },
        record { plan = c.in_ok-next.ensures.lawful; read = c.in_ok-next.ensures.found },
        c.in_ok-first.ensures,
        refl,
      ),
      part.1,
    )

pub returns-clause-written : goal.returns-clause-written
returns-clause-written g c = (
  _,
  (
    c.in_ok-plan.plan,
    c.in_ok-next.next,
    c.in_ok-first.first,
    c.in_ok-first.second,
    record { plan = c.in_ok-plan.ensures.lawful; read = c.in_ok-plan.ensures.found },
    record { plan = c.in_ok-next.ensures.lawful; read = c.in_ok-next.ensures.found },
    c.in_ok-first.ensures,
    refl,
  ),
  c.in_ok-write_reports.ensures.ok,
)

pub returns-in_err-first-clause-plans : goal.returns-in_err-first-clause-plans
returns-in_err-first-clause-plans g c = search (tests, rules)

pub returns-in_err-next-clause-read_fault : goal.returns-in_err-next-clause-read_fault
returns-in_err-next-clause-read_fault g c = search (tests, rules)
