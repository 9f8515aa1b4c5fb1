use Rattle.std.proofs.lemmas.Grind.{flat_map-append}
use Rattle.std.proofs.lemmas.Iterator.Adapters.{YieldsList-from_vec}
use Rattle.std.proofs.lemmas.Iterator.Consumers.{YieldsList-end}
use Rattle.std.proofs.lemmas.List.{map-id}
use Rattle.std.specs.declared.alloc.Global.{Global}
use Rattle.std.specs.declared.vec.Vec.{Vec}
use Rattle.partial_model.specs.declared.call.Called.{Called}
use Rattle.partial_text.proofs.Common.{◌++◌, ◌∷◌, [], List, sym, ap, ◌∙◌, append-nil, arith, calls_in_order}
use Rattle.partial_text.proofs.replayed.in_one_list.Goals as goal

pub loop-calls-preserved : goal.loop-calls-preserved
loop-calls-preserved c =
    let own : Vec Called Global = c.in-Some.calls in
    let before : List (Vec Called Global) = c.loop-calls.yielded in
    let joined = flat_map-append (λ (l : Vec Called Global). l.items) before (own ∷ []) ∙ ap (λ (l : List Called). calls_in_order before ++ l) (append-nil own.items) in
    c.in_ok-append.ensures.items ∙ ap (λ (l : List Called). l ++ own.items) c.loop-calls.invariant ∙ sym joined

pub returns : goal.returns
returns c =
    let ports : List (Vec Called Global) = c.args.ports.items in
    let given = c.into_iter-calls-iterator.ensures.into_iter_gives in
    let road = YieldsList-from_vec ports given.0 (omega (arith, given.1, c.args.ports.ok.0)) in
    let end = YieldsList-end road c.loop-calls.yielded c.loop-calls.calls-iterator c.loop-calls.yielded_by c.next.result c.next.new.self c.in-None.is c.next.ensures.steps in
    c.loop-calls.invariant ∙ ap calls_in_order (sym (map-id c.loop-calls.yielded) ∙ end.0)
