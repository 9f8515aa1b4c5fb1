-- What a verb asks to be written, by verbs.
use Rattle.partial_cmd.proofs.Common.{◌≡◌, ◌++◌, [], ◌∷◌, refl, sym, subst, codes, RunReport, outcome_text, PlanView, Verb, VerbWrites, IsReportOf}
use Rattle.partial_text.specs.ReportText.{report_text}
use Rattle.partial_replay.specs.Replayed.{IsReplayOf, OutcomeView}

pub asked_replay : (v : Verb) (p : PlanView) (o : OutcomeView) → v ≡ Verb.Replay → IsReplayOf p o → VerbWrites v p (outcome_text o.opening o.history o.calls o.steps)
asked_replay v p o is w = subst (λ (x : Verb). VerbWrites x p (outcome_text o.opening o.history o.calls o.steps)) (sym is) (o, w, refl)

pub asked_check : (v : Verb) (p : PlanView) (o : OutcomeView) → v ≡ Verb.Check → IsReplayOf p o → VerbWrites v p (codes "lawful" ++ 10 ∷ [])
asked_check v p o is w = subst (λ (x : Verb). VerbWrites x p (codes "lawful" ++ 10 ∷ [])) (sym is) (o, w, refl)

pub asked_run : (v : Verb) (p : PlanView) (r : RunReport) → v ≡ Verb.Run → IsReportOf p r → VerbWrites v p (report_text r.answers.items r.values.items)
asked_run v p r is w = subst (λ (x : Verb). VerbWrites x p (report_text r.answers.items r.values.items)) (sym is) (r, w, refl)
