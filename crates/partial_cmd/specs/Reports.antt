-- What a report of a run says: there is one history in which its answers are right.
use Rattle.partial_model.specs.declared.history.Opening.{Opening}
use Rattle.partial_words.specs.Layout.{pool_base}
use Rattle.partial_text.specs.PlanText.{PlanView}
use Rattle.partial_text.specs.declared.report.RunReport.{RunReport}
use Rattle.partial_workers.specs.Answered.{AreRight}
use Rattle.partial_workers.specs.declared.workers.Ran.{Ran}

-- what the components hold as a run of the plan begins, each with a record's word number for its first stamp
abbrev pub run_opening : PlanView → Opening
run_opening p = record { values = p.initial; first = pool_base p.sizes }

-- The report has one list for each port of the plan, with one answer for each of its calls, in order. There is one history over the
-- opening's values, of distinct stamps and with entries by the plan's ports alone, in which all of them are right, and whose values are
-- the report's.
abbrev pub IsReportFrom : Opening → PlanView → RunReport → Type 0
IsReportFrom o p report = AreRight o p.ports report.answers.items report.values.items

-- the same over the plan's initial values
abbrev pub IsReportOf : PlanView → RunReport → Type 0
IsReportOf p report = IsReportFrom (run_opening p) p report

-- the report of workers
abbrev pub report_of : Ran → RunReport
report_of ran = record { answers = ran.answers; values = ran.closed.values }
