use Rattle.std.proofs.Common.{rules}
use Rattle.std.proofs.lemmas.List.{drop_more}
use Rattle.std.specs.declared.alloc.Global.{Global}
use Rattle.std.specs.declared.vec.Vec.{Vec}
use Rattle.partial_model.specs.declared.call.Answer.{Answer}
use Rattle.partial_text.proofs.{Common.{◌<◌, ◌∷◌, ◌+◌, drop, length, sym, ap, subst, ◌∙◌, List, port_lines, answer_lines}, TextGiven.tells_then}
use Rattle.partial_text.specs.Inner.TextGiven.{GivesBytes, text_given}
use Rattle.partial_text.proofs.report_text.tell_ports.Goals as goal

pub loop-port-preserved : goal.loop-port-preserved
loop-port-preserved g c = λ end rest.
    let xs = c.args.ports.now in
    let k = c.loop-port.port in
    let inside : k < length xs = search rules in
    let more = drop_more xs k c.index-ports-port.result inside ∙ ap (λ (x : (Vec Answer Global)). x ∷ drop (k + 1) xs) (sym c.index-ports-port.is) in
    let now = text_given g.W.Write.contents c.loop-port.text c.loop-port.out in
    let after = text_given g.W.Write.contents c.tell_answers.new.text c.tell_answers.new.out in
    let told = subst (λ (answers : List Answer). GivesBytes now (answer_lines k 0 answers) after) c.deref.ensures.value c.tell_answers.ensures in
    c.loop-port.invariant end (subst (λ (left : List (Vec Answer Global)). GivesBytes now (port_lines k left) end) (sym more) (tells_then _ _ _ _ _ told rest))
