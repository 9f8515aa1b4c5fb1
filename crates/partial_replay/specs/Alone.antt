-- What the replay of a plan with one port leads to.
use Rattle.std.specs.Prelude.{ℕ, ◌≡◌, ◌≢◌, ◌+◌, ⊤, List, length, map, take, Option, Some, None, IfSome}
use Rattle.std.specs.List.{AllByRecursion}
use Rattle.partial_model.specs.declared.history.Applied.{Applied}
use Rattle.partial_model.specs.declared.history.Opening.{Opening}
use Rattle.partial_model.specs.declared.call.Call.{Call}
use Rattle.partial_model.specs.declared.call.Answer.{Answer}
use Rattle.partial_model.specs.declared.call.Note.{Note}
use Rattle.partial_model.specs.declared.call.Called.{Called}
use Rattle.partial_model.specs.History.{value_of, stamp_of}
use Rattle.partial_text.specs.PlanText.{PlanView}
use Rattle.partial_replay.specs.Replayed.{IsReplayOf, OutcomeView}

-- between its begin and its end a call adds its own entry alone, and no update is lost
abbrev pub AddsAlone : ℕ → ℕ → Option Note → Type 0
AddsAlone began ended None = ended ≡ began
AddsAlone began ended (Some (Note.Wrote k)) = (k ≡ began) × (ended ≡ began + 1)
AddsAlone began ended (Some (Note.Lost k)) = ⊥
AddsAlone began ended (Some (Note.Saw n)) = (n ≡ began) × (ended ≡ began)

-- A call answers for the whole history as it begins: a scan and a read what they find there, and a
-- conditional update is applied exactly when the component has the expected stamp there.
abbrev pub AnswersAlone : Opening → List Applied → Call → Answer → Type 0
AnswersAlone o h (Call.Update j v) (Answer.Lost by) = ⊥
AnswersAlone o h (Call.Scan js) (Answer.Scanned vs c b) = vs ≡ map (λ j. value_of o h j) js
AnswersAlone o h (Call.Read j) (Answer.Read v s) = (v ≡ value_of o h j) × (s ≡ stamp_of o h j)
AnswersAlone o h (Call.UpdateIf j x v) (Answer.Applied s) = stamp_of o h j ≡ x
AnswersAlone o h (Call.UpdateIf j x v) (Answer.Changed t) = (stamp_of o h j ≡ t) × (t ≢ x)
AnswersAlone o h _ _ = ⊤

-- while a finished call was made nothing came into the history but its own entry, and it answers for the history as it began
abbrev pub IsAlone : Opening → List Applied → Called → Type 0
IsAlone o h c = IfSome c.finish (λ f. AddsAlone c.began f.ended f.note × AnswersAlone o (take c.began h) c.call f.answer)

-- in the replay of a plan with one port each call is alone
abbrev pub OnePortIsAlone : Type 0
OnePortIsAlone = (p : PlanView) (outcome : OutcomeView) → length p.ports ≡ 1 → IsReplayOf p outcome →
    AllByRecursion (IsAlone outcome.opening outcome.history) outcome.calls
