use Rattle.std.proofs.Common.{rules}
use Rattle.std.proofs.lemmas.List.{drop_more}
use Rattle.partial_model.specs.declared.call.Called.{Called}
use Rattle.partial_text.proofs.{Common.{◌<◌, ◌∷◌, ◌+◌, drop, length, sym, ap, subst, ◌∙◌, List, flat_map, call_line}, TextGiven.tells_then}
use Rattle.partial_text.specs.Inner.TextGiven.{GivesBytes, text_given}
use Rattle.partial_text.proofs.outcome_text.tell_calls.Goals as goal

pub loop-called-preserved : goal.loop-called-preserved
loop-called-preserved g c = λ end rest.
    let xs = c.args.calls.now in
    let k = c.loop-called.called-index in
    let inside : k < length xs = search rules in
    let more = drop_more xs k c.called-item.result inside ∙ ap (λ (x : Called). x ∷ drop (k + 1) xs) (sym c.called-item.is) in
    let now = text_given g.W.Write.contents c.loop-called.text c.loop-called.out in
    c.loop-called.invariant end (subst (λ (left : List Called). GivesBytes now (flat_map call_line left) end) (sym more) (tells_then _ _ _ _ _ c.tell_call.ensures rest))
