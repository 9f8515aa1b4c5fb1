-- A plan has one outcome.
use Rattle.std.specs.Prelude.{◌≡◌}
use Rattle.partial_text.specs.PlanText.{PlanView}
use Rattle.partial_replay.specs.Replayed.{IsReplayOf, OutcomeView}

-- two outcomes of one plan say the same
abbrev pub PlansHaveOneOutcome : Type 0
PlansHaveOneOutcome = (p : PlanView) (a b : OutcomeView) → IsReplayOf p a → IsReplayOf p b → a ≡ b
