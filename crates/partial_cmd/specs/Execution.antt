-- What a command answers, and what it writes.
use Rattle.std.specs.Prelude.{ℕ, ◌≡◌, ◌≢◌, List, [], ◌∷◌, ◌++◌, take, codes, Option, Some, None, IfSome, Result, Ok, Err}
use Rattle.std.specs.Io.KnownBytes.{Appends}
use Rattle.partial_text.specs.declared.fault.Cause.{Cause}
use Rattle.partial_text.specs.declared.fault.PlanError.{PlanError}
use Rattle.partial_text.specs.declared.fault.OutcomeError.{OutcomeError}
use Rattle.partial_text.specs.Fault as text
use Rattle.partial_text.specs.PlanText.{PlanView, IsPlan, plan_text}
use Rattle.partial_text.specs.OutcomeText.{outcome_text}
use Rattle.partial_text.specs.ReportText.{report_text}
use Rattle.partial_text.specs.declared.report.RunReport.{RunReport}
use Rattle.partial_replay.specs.Replayed.{IsReplayOf, OutcomeView}
use Rattle.partial_cmd.specs.Reports.{IsReportOf}
use Rattle.partial_cmd.specs.declared.fault.Fault.{Fault}
use Rattle.partial_cmd.specs.declared.command.Verb.{Verb}
use Rattle.partial_cmd.specs.declared.command.Verdict.{Verdict}

-- the number of a refusal
abbrev pub fault_code : Fault → ℕ
fault_code (Fault.Plan e) = text.plan_code e
fault_code (Fault.Replay e) = 6
fault_code Fault.Check = 6
fault_code Fault.TooSmall = 13
fault_code (Fault.Run e) = 6
fault_code (Fault.Outcome e) = text.outcome_code_of e

-- the line and the cause of a refused line
abbrev pub fault_line : Fault → Option (ℕ × Cause)
fault_line (Fault.Plan e) = text.line_of e
fault_line _ = None

-- the reader of the plan failed
abbrev pub reader_fault : Fault
reader_fault = Fault.Plan PlanError.Read

-- the writer failed
abbrev pub writer_fault : Fault
writer_fault = Fault.Outcome OutcomeError.Write

-- the text was judged to be that of a plan
abbrev pub IsRead : Result PlanView PlanError → Type 0
IsRead judged = (p : PlanView) × (judged ≡ Ok p)

-- The plan was refused with the fault that judging its text gives, unless memory ran out, and it was
-- replayed or run only when judging gives a plan.
abbrev pub IsJudged : Result Verdict Fault → Result PlanView PlanError → Type 0
IsJudged (Ok v) judged = IsRead judged
IsJudged (Err (Fault.Plan e)) judged = text.Fails e judged
IsJudged (Err (Fault.Replay e)) judged = IsRead judged
IsJudged (Err Fault.Check) judged = IsRead judged
IsJudged (Err Fault.TooSmall) judged = ⊥
IsJudged (Err (Fault.Run e)) judged = IsRead judged
IsJudged (Err (Fault.Outcome e)) judged = IsRead judged

-- how a command ends that isn't refused: every replay is lawful
abbrev pub verdict_of : Verb → Verdict
verdict_of Verb.Replay = Verdict.Done
verdict_of Verb.Check = Verdict.Lawful
verdict_of Verb.Run = Verdict.Done

-- the text is that of the plan
pub record IsTextOf (text : Option (List ℕ)) (p : PlanView) : Type 0 where
  pub plan : IsPlan p
  pub read : IfSome text (λ bytes. bytes ≡ plan_text p)

-- What a verb asks to be written of a plan: of an outcome of its replay its text or that it is lawful, and of a run its report.
abbrev pub VerbWrites : Verb → PlanView → List ℕ → Type 0
VerbWrites Verb.Replay p answer =
    (outcome : OutcomeView) × IsReplayOf p outcome
    × (answer ≡ outcome_text outcome.opening outcome.history outcome.calls outcome.steps)
VerbWrites Verb.Check p answer = (outcome : OutcomeView) × IsReplayOf p outcome × (answer ≡ codes "lawful" ++ 10 ∷ [])
VerbWrites Verb.Run p answer =
    (report : RunReport) × IsReportOf p report × (answer ≡ report_text report.answers.items report.values.items)

-- the same of the plan with this text
abbrev pub IsAnswer : Verb → Option (List ℕ) → List ℕ → Type 0
IsAnswer verb text answer = (p : PlanView) × IsTextOf text p × VerbWrites verb p answer

-- it was written
abbrev pub WritesOutcome : Verb → Option (List ℕ) → Option (List ℕ) → Option (List ℕ) → Type 0
WritesOutcome verb text before after = (answer : List ℕ) × IsAnswer verb text answer × Appends before after answer

-- a part of it was written, from its front
abbrev pub WritesPart : Verb → Option (List ℕ) → Option (List ℕ) → Option (List ℕ) → Type 0
WritesPart verb text before after = (answer : List ℕ) × (n : ℕ) × IsAnswer verb text answer × Appends before after (take n answer)

-- what a replay or a check writes is a function of the bytes of the plan's text
abbrev pub PlansHaveOneAnswer : Type 0
PlansHaveOneAnswer = (v : Verb) (bytes a b : List ℕ) → v ≢ Verb.Run → IsAnswer v (Some bytes) a → IsAnswer v (Some bytes) b → a ≡ b

-- the fault isn't one of the plans
abbrev pub IsAfterReading : Fault → Type 0
IsAfterReading (Fault.Plan e) = ⊥
IsAfterReading Fault.TooSmall = ⊥
IsAfterReading _ = Unit {0}
