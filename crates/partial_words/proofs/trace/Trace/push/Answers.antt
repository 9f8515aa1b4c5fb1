use Rattle.partial_words.proofs.Common.{◌++◌, ◌∷◌, [], List, ap, ◌∙◌}
use Rattle.partial_words.specs.declared.step.Event.{Event}
use Rattle.partial_words.specs.declared.trace.Kept.{Kept}
use Rattle.partial_words.specs.Kept.{kept_events, others_in}
use Rattle.partial_words.proofs.TraceLemmas.{step_kept, others_behind_step}
use Rattle.partial_words.proofs.trace.Trace.push.Goals as goal

pub invariant_of-self-in-Some : goal.invariant_of-self-in-Some
invariant_of-self-in-Some c =
    ap others_in c.in_ok-push-in-Some.ensures.items ∙ others_behind_step c.self.inside.kept.items c.in-Some.kept c.args.event c.in-Some.ensures ∙ c.self.invariant

pub returns-in_ok-push-in-Some-clause-pushed : goal.returns-in_ok-push-in-Some-clause-pushed
returns-in_ok-push-in-Some-clause-pushed c =
    let others : List Event = c.self.inside.others.items in
    ap (λ (l : List Kept). kept_events l others) c.in_ok-push-in-Some.ensures.items
    ∙ step_kept c.self.inside.kept.items others c.in-Some.kept c.args.event c.in-Some.ensures c.self.invariant
    ∙ ap (λ (l : List Event). l ++ c.args.event ∷ []) c.self.view_is
