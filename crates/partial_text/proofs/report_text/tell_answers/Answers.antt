use Rattle.std.proofs.Common.{rules}
use Rattle.std.proofs.lemmas.List.{drop_more}
use Rattle.partial_model.specs.declared.call.Answer.{Answer}
use Rattle.partial_text.proofs.{Common.{◌<◌, ◌∷◌, ◌+◌, drop, length, sym, ap, subst, ◌∙◌, List, answer_lines}, TextGiven.tells_then}
use Rattle.partial_text.specs.Inner.TextGiven.{GivesBytes, text_given}
use Rattle.partial_text.proofs.report_text.tell_answers.Goals as goal

pub loop-number-preserved : goal.loop-number-preserved
loop-number-preserved g c = λ end rest.
    let xs = c.args.answers.now in
    let k = c.loop-number.number in
    let inside : k < length xs = search rules in
    let more = drop_more xs k c.index-answers-number.result inside ∙ ap (λ (x : Answer). x ∷ drop (k + 1) xs) (sym c.index-answers-number.is) in
    let now = text_given g.W.Write.contents c.loop-number.text c.loop-number.out in
    c.loop-number.invariant end (subst (λ (left : List Answer). GivesBytes now (answer_lines c.args.port k left) end) (sym more) (tells_then _ _ _ _ _ c.tell_answer_line.ensures rest))
