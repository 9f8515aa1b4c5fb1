use Rattle.std.proofs.Common.{ap₂}
use Rattle.std.proofs.lemmas.List.{length_push}
use Rattle.partial_words.proofs.Common.{◌≡◌, ◌++◌, ◌∷◌, [], List, arith, ap, length, ◌∙◌}
use Rattle.partial_words.specs.declared.step.Event.{Event}
use Rattle.partial_words.specs.declared.trace.Kept.{Kept}
use Rattle.partial_words.specs.Kept.{kept_events, others_in}
use Rattle.partial_words.proofs.TraceLemmas.{other_kept, others_behind_other}
use Rattle.partial_words.proofs.trace.Trace.push_other.Goals as goal

pub invariant_of-self-2 : goal.invariant_of-self-2
invariant_of-self-2 c =
    let kept : List Kept = c.self.inside.kept.items in
    let is : c.push_reserved.new.self.items ≡ kept ++ Kept.Other ∷ [] = c.push_reserved.ensures.items ∙ ap (λ (l : List Kept). l ++ Kept.Other ∷ []) c.in_ok-reserve.ensures.items in
    let more = ap others_in is ∙ others_behind_other kept in
    let others : List Event = c.self.inside.others.items in
    let long = ap (λ (l : List Event). length l) c.in_ok-push.ensures.items ∙ length_push others c.args.event in
    let was : others_in kept ≡ length others = c.self.invariant in
    omega (arith, more, long, was)

pub returns-clause-pushed : goal.returns-clause-pushed
returns-clause-pushed c =
    let kept : List Kept = c.self.inside.kept.items in
    let others : List Event = c.self.inside.others.items in
    let event : Event = c.args.event in
    let is : c.push_reserved.new.self.items ≡ kept ++ Kept.Other ∷ [] = c.push_reserved.ensures.items ∙ ap (λ (l : List Kept). l ++ Kept.Other ∷ []) c.in_ok-reserve.ensures.items in
    ap₂ kept_events is c.in_ok-push.ensures.items ∙ other_kept kept others event c.self.invariant ∙ ap (λ (l : List Event). l ++ event ∷ []) c.self.view_is
