-- The plan's text determines what a verb asks to be written.
use Rattle.partial_cmd.proofs.Common.{ℕ, ◌≡◌, ◌≢◌, List, Ok, refl, sym, ◌∙◌, ap, subst, outcome_text, PlanView, IsPlan, plan_text, judged_again, Verb, VerbWrites, PlansHaveOneAnswer}
use Rattle.partial_text.specs.Judging.{judged_plan}
use Rattle.partial_replay.specs.Replayed.{OutcomeView}
use Rattle.partial_replay.proofs.Laws.{plans_have_one_outcome}

-- two plans of one text are the same
same_plan : (p q : PlanView) → IsPlan p → IsPlan q → plan_text p ≡ plan_text q → p ≡ q
same_plan p q a b same =
    let both : Ok p ≡ Ok q = sym (judged_again p a) ∙ ap judged_plan same ∙ judged_again q b in
    cc

-- the text of an outcome
abbrev text_of : OutcomeView → List ℕ
text_of o = outcome_text o.opening o.history o.calls o.steps

same_answer : (v : Verb) (p : PlanView) (a b : List ℕ) → v ≢ Verb.Run → VerbWrites v p a → VerbWrites v p b → a ≡ b
same_answer Verb.Replay p a b other x y = x.2 ∙ ap text_of (plans_have_one_outcome p (x.0) (y.0) x.1 y.1) ∙ sym y.2
same_answer Verb.Check p a b other x y = x.2 ∙ sym y.2
same_answer Verb.Run p a b other x y = absurd (other refl)

pub plans_have_one_answer : PlansHaveOneAnswer
plans_have_one_answer v bytes a b other x y =
    let plan = same_plan (x.0) (y.0) (x.1).plan (y.1).plan (sym (x.1).read ∙ (y.1).read) in
    same_answer v (x.0) a b other x.2 (subst (λ (p : PlanView). VerbWrites v p b) (sym plan) y.2)
