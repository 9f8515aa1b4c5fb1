use Rattle.std.proofs.Common.{rules}
use Rattle.std.proofs.lemmas.List.{drop_more}
use Rattle.std.proofs.lemmas.Grind.{flat_map-append}
use Rattle.std.specs.declared.alloc.Global.{Global}
use Rattle.std.specs.declared.vec.Vec.{Vec}
use Rattle.partial_model.specs.declared.call.Called.{Called}
use Rattle.partial_text.proofs.{Common.{ℕ, ◌<◌, ◌∷◌, ◌+◌, drop, length, sym, ap, subst, ◌∙◌, List, flat_map, call_line, calls_in_order}, TextGiven.tells_then}
use Rattle.partial_text.specs.Inner.TextGiven.{GivesBytes, text_given}
use Rattle.partial_text.proofs.outcome_text.tell_calls_of_ports.Goals as goal

pub loop-calls-preserved : goal.loop-calls-preserved
loop-calls-preserved g c = λ end rest.
    let xs = c.args.ports.now in
    let k = c.loop-calls.calls-index in
    let inside : k < length xs = search rules in
    let left = drop (k + 1) xs in
    let own : Vec Called Global = c.calls-item.result in
    let more = drop_more xs k own inside ∙ ap (λ (x : (Vec Called Global)). x ∷ left) (sym c.calls-item.is) in
    let now = text_given g.W.Write.contents c.loop-calls.text c.loop-calls.out in
    let after = text_given g.W.Write.contents c.tell_calls.new.text c.tell_calls.new.out in
    let told = subst (λ (calls : List Called). GivesBytes now (flat_map call_line calls) after) c.deref.ensures.value c.tell_calls.ensures in
    let both = subst (λ (t : List ℕ). GivesBytes now t end) (sym (flat_map-append call_line own.items (calls_in_order left))) (tells_then _ _ _ _ _ told rest) in
    c.loop-calls.invariant end (subst (λ (ports : List (Vec Called Global)). GivesBytes now (flat_map call_line (calls_in_order ports)) end) (sym more) both)
