-- The result of two plans, when the second goes on with the memory of the first.
use Rattle.std.specs.Prelude.{ℕ, ◌≡◌, ◌<◌, ◌≤◌, ◌⊎◌, List, ◌++◌, take, Option, Result, Ok, Err}
use Rattle.std.specs.Io.KnownBytes.{Appends}
use Rattle.partial_model.specs.declared.history.Opening.{Opening}
use Rattle.partial_words.specs.Layout.{pool_base}
use Rattle.partial_text.specs.declared.fault.PlanError.{PlanError}
use Rattle.partial_text.specs.declared.report.RunReport.{RunReport}
use Rattle.partial_text.specs.Fault as text
use Rattle.partial_text.specs.PlanText.{PlanView}
use Rattle.partial_text.specs.ReportText.{report_text}
use Rattle.partial_memory.specs.Reopening.{Continues, extended_values}
use Rattle.partial_cmd.specs.declared.command.Verdict.{Verdict}
use Rattle.partial_cmd.specs.declared.fault.Fault.{Fault}
use Rattle.partial_cmd.specs.Execution.{IsAfterReading, IsTextOf}
use Rattle.partial_cmd.specs.Reports.{IsReportFrom, IsReportOf, run_opening}

-- what the components hold as a run of the second plan begins: the values that the first one left, and zeros for added ones
abbrev pub next_opening : PlanView → List ℕ → Opening
next_opening p values = record { values = extended_values p.sizes.m values; first = pool_base p.sizes }

-- The reports of both plans. Whatever the second run applies, a component has the value that it would have after both histories over
-- the first plan's values, with zeros for added components.
pub record AreReports (p next : PlanView) (first second : RunReport) : Type 0 where
  pub enough : p.sizes.m ≤ next.sizes.m
  pub one : IsReportOf p first
  pub other : IsReportFrom (next_opening next first.values.items) next second
  pub continues : Continues (run_opening p) one.log (next_opening next first.values.items)

-- the text is that of two such reports, of the plans with these texts
abbrev pub AreReportsText : Option (List ℕ) → Option (List ℕ) → List ℕ → Type 0
AreReportsText text next answer =
    (p q : PlanView) × (first second : RunReport) × IsTextOf text p × IsTextOf next q × AreReports p q first second
    × (answer ≡ report_text first.answers.items first.values.items ++ report_text second.answers.items second.values.items)

-- it was written
abbrev pub WritesReports : Option (List ℕ) → Option (List ℕ) → Option (List ℕ) → Option (List ℕ) → Type 0
WritesReports text next before after = (answer : List ℕ) × AreReportsText text next answer × Appends before after answer

-- a part of it was written, from its front
abbrev pub WritesReportsPart : Option (List ℕ) → Option (List ℕ) → Option (List ℕ) → Option (List ℕ) → Type 0
WritesReportsPart text next before after =
    (answer : List ℕ) × (n : ℕ) × AreReportsText text next answer × Appends before after (take n answer)

-- the result of two plans that are read: 13 exactly when the second has fewer components, and no fault of reading
abbrev pub AreRun : Result Verdict Fault → PlanView → PlanView → Type 0
AreRun (Err Fault.TooSmall) p q = q.sizes.m < p.sizes.m
AreRun (Err e) p q = IsAfterReading e × (p.sizes.m ≤ q.sizes.m)
AreRun (Ok v) p q = p.sizes.m ≤ q.sizes.m

-- Each plan is refused as judging its text says, the first one first.
abbrev pub AreJudged : Result Verdict Fault → Result PlanView PlanError → Result PlanView PlanError → Type 0
AreJudged (Err (Fault.Plan e)) first second = text.Fails e first ⊎ ((p : PlanView) × (first ≡ Ok p) × text.Fails e second)
AreJudged result first second = (p q : PlanView) × (first ≡ Ok p) × (second ≡ Ok q) × AreRun result p q
