-- Why a plan is refused, and what a function that may run out of memory gives.
use Rattle.std.specs.Prelude.{ℕ, ◌≡◌, Option, Some, None, Result, Ok, Err}
use Rattle.partial_words.specs.SizeFault as sizes
use Rattle.partial_text.specs.declared.fault.Cause.{Cause}
use Rattle.partial_text.specs.declared.fault.PlanError.{PlanError}
use Rattle.partial_text.specs.declared.fault.OutcomeError.{OutcomeError}

-- the number of a refusal
abbrev pub plan_code : PlanError → ℕ
plan_code (PlanError.Size e) = sizes.size_code e
plan_code PlanError.Ports = 5
plan_code PlanError.OutOfMemory = 6
plan_code (PlanError.Line l c) = 10
plan_code PlanError.Read = 11

-- the line and the cause of a refused line
abbrev pub line_of : PlanError → Option (ℕ × Cause)
line_of (PlanError.Line l c) = Some (l, c)
line_of _ = None

-- the number of a refusal
abbrev pub outcome_code_of : OutcomeError → ℕ
outcome_code_of OutcomeError.OutOfMemory = 6
outcome_code_of OutcomeError.Write = 12

-- a step that may be refused, and what is done with what it gives
infixl 10 ◌>>=◌
abbrev pub ◌>>=◌ : {A B : Type 0} → Result A PlanError → (A → Result B PlanError) → Result B PlanError
(Ok x) >>= f = f x
(Err e) >>= f = Err e

-- The error is the one that judging gives, unless memory ran out. Judging reads nothing.
abbrev pub Fails : {Y : Type 0} → PlanError → Result Y PlanError → Type 0
Fails PlanError.OutOfMemory judged = Unit {0}
Fails PlanError.Read judged = ⊥
Fails (PlanError.Size e) judged = judged ≡ Err (PlanError.Size e)
Fails PlanError.Ports judged = judged ≡ Err PlanError.Ports
Fails (PlanError.Line l c) judged = judged ≡ Err (PlanError.Line l c)

-- What a function returned, seen by view, is what judging gives, unless memory ran out.
abbrev pub Gives : {X Y : Type 0} → (X → Y) → Result X PlanError → Result Y PlanError → Type 0
Gives view (Ok x) judged = judged ≡ Ok (view x)
Gives view (Err e) judged = Fails e judged

-- what reading the bytes alone may answer
abbrev pub IsReaderFault : PlanError → Type 0
IsReaderFault PlanError.OutOfMemory = Unit {0}
IsReaderFault PlanError.Read = Unit {0}
IsReaderFault _ = ⊥
