-- The numbers of refusals, and which refusal it is.
use Rattle.std.specs.Prelude.{ℕ, Result, Ok, Err, IsOk}
use Rattle.partial_text.specs.Fault as text
use Rattle.partial_text.specs.PlanText.{PlanView}
use Rattle.partial_text.specs.declared.fault.PlanError.{PlanError}
use Rattle.partial_text.specs.declared.fault.OutcomeError.{OutcomeError}
use Rattle.partial_picture.specs.declared.fault.PictureError.{PictureError}
use Rattle.partial_picture.specs.declared.fault.Fault.{Fault}

-- the number of the refusal of a picture
abbrev pub picture_code_of : PictureError → ℕ
picture_code_of PictureError.OutOfMemory = 6
picture_code_of (PictureError.TooMany steps) = 15
picture_code_of (PictureError.Window steps) = 16

-- the number of a refusal
abbrev pub draw_code : Fault → ℕ
draw_code (Fault.Plan e) = text.plan_code e
draw_code (Fault.Replay e) = 6
draw_code (Fault.Picture e) = picture_code_of e
draw_code (Fault.Text e) = text.outcome_code_of e

-- the reader of the plan failed
abbrev pub draw_reader_fault : Fault
draw_reader_fault = Fault.Plan PlanError.Read

-- the writer failed
abbrev pub draw_writer_fault : Fault
draw_writer_fault = Fault.Text OutcomeError.Write

-- The plan was refused with the fault that judging its text gives, unless memory ran out, and anything else came only
-- of what judging gives as a plan.
abbrev pub IsDrawJudged : {X : Type 0} → Result X Fault → Result PlanView PlanError → Type 0
IsDrawJudged (Ok x) judged = IsOk judged
IsDrawJudged (Err (Fault.Plan e)) judged = text.Fails e judged
IsDrawJudged (Err (Fault.Replay e)) judged = IsOk judged
IsDrawJudged (Err (Fault.Picture e)) judged = IsOk judged
IsDrawJudged (Err (Fault.Text e)) judged = IsOk judged
