use Rattle.partial_replay.proofs.{Common.{◌≡◌, ◌<◌, ◌^◌, ◌++◌, List, [], ◌∷◌, length, slice_get, sym, subst, refl, ◌∙◌, ap, arith, length_push, take_all, Call, Called, calls_in, calls_in_order, left_over, IsSome, PortAt, append-nil, append_assoc}, Opens.{pair_at, listed_at_place, length-zip, none_in, calls_more}}
use Rattle.std.proofs.lemmas.Grind.{flat_map-append}
use Rattle.std.specs.declared.alloc.Global.{Global}
use Rattle.std.specs.declared.vec.Vec.{Vec}
use Rattle.std.proofs.lemmas.Iterator.{YieldsList-from_slice, YieldsList-from_zip}
use Rattle.std.proofs.lemmas.Iterator.{Adapters.YieldsList-from_vec, Consumers.{YieldsList-turn, YieldsList-end}}
use Rattle.partial_replay.proofs.run.calls_of.Goals.{After-as_slice}
use Rattle.partial_replay.proofs.run.calls_of.Goals as goal

pub loop-port-init : goal.loop-port-init
loop-port-init c = ap calls_in_order c.in_ok-calls.ensures.items ∙ sym (none_in c.args.plans.now)

-- the port that the loop is at, and its calls
here : (c : After-as_slice) → PortAt c.args.plans.now c.args.ports.items (length c.loop-port.yielded) c.in-Some.plan.now c.in-Some.port
here c =
    let plans = c.args.plans.now in
    let ports = c.args.ports.items in
    let given = c.into_iter-port-iterator.ensures.into_iter_gives in
    let first = c.zip-port-items.ensures.first in
    let front = YieldsList-from_vec ports (rw (given, first) c.into_iter.ensures.rest) (rw (given, first) (omega (arith, c.into_iter.ensures.len, c.args.ports.ok.0))) in
    let road = YieldsList-from_zip front (YieldsList-from_slice plans (rw given c.zip-port-items.ensures.second.0)) in
    pair_at ports plans (length c.loop-port.yielded) c.in-Some.port c.in-Some.plan.now
    (YieldsList-turn road c.loop-port.yielded c.loop-port.port-iterator c.loop-port.yielded_by c.next.result c.next.new.self (c.in-Some.port, c.in-Some.plan) c.in-Some.is c.next.ensures.steps)

pub calls_of_port-requires-clause-short : goal.calls_of_port-requires-clause-short
calls_of_port-requires-clause-short c =
    let listed = listed_at_place c.args.plans.now c.args.ports.items (length c.loop-port.yielded) c.requires (here (goal.at.calls_of_port-requires-clause-short c).After-as_slice) in
    subst (λ (l : List Call). length l < 2 ^ 32) (sym c.as_slice.ensures) listed.0

pub calls_of_port-requires-clause-within : goal.calls_of_port-requires-clause-within
calls_of_port-requires-clause-within c =
    let port = c.in-Some.port in
    let listed = listed_at_place c.args.plans.now c.args.ports.items (length c.loop-port.yielded) c.requires (here (goal.at.calls_of_port-requires-clause-within c).After-as_slice) in
    subst (λ (l : List Call). IsSome port.under_way → length port.finished.items < length l) (sym c.as_slice.ensures) listed.1

pub loop-port-preserved : goal.loop-port-preserved
loop-port-preserved c =
    let port = c.in-Some.port in
    let k = length (c.loop-port.yielded ++ (port, c.in-Some.plan) ∷ []) in
    let own : Vec Called Global = c.in_ok-calls_of_port.field-0 in
    let before : List (Vec Called Global) = c.loop-port.calls.items in
    let over : List Called = left_over port (slice_get c.in-Some.plan.now (length port.finished.items)) port.under_way in
    let so_far : List Called = calls_in_order before in
    let joined : calls_in_order (before ++ own ∷ []) ≡ so_far ++ own.items =
    flat_map-append (λ (l : Vec Called Global). l.items) before (own ∷ []) ∙ ap (λ (l : List Called). so_far ++ l) (append-nil own.items) in
    let ended : own.items ≡ port.finished.items ++ over = c.in_ok-calls_of_port.ensures
    ∙ ap (λ (l : List Call). port.finished.items ++ left_over port (slice_get l (length port.finished.items)) port.under_way) c.as_slice.ensures in
    let is : calls_in_order c.push.new.self.items ≡ (so_far ++ port.finished.items) ++ over =
    ap calls_in_order c.in_ok-push.ensures.items ∙ joined ∙ ap (λ (l : List Called). so_far ++ l) ended ∙ sym (append_assoc so_far port.finished.items over) in
    calls_more k over so_far (calls_in_order c.push.new.self.items) (length_push c.loop-port.yielded (port, c.in-Some.plan))
    (here (goal.at.loop-port-preserved c).After-as_slice) c.loop-port.invariant refl is

pub returns : goal.returns
returns c =
    let plans = c.args.plans.now in
    let ports = c.args.ports.items in
    let given = c.into_iter-port-iterator.ensures.into_iter_gives in
    let first = c.zip-port-items.ensures.first in
    let front = YieldsList-from_vec ports (rw (given, first) c.into_iter.ensures.rest) (rw (given, first) (omega (arith, c.into_iter.ensures.len, c.args.ports.ok.0))) in
    let road = YieldsList-from_zip front (YieldsList-from_slice plans (rw given c.zip-port-items.ensures.second.0)) in
    let end = YieldsList-end road c.loop-port.yielded c.loop-port.port-iterator c.loop-port.yielded_by c.next.result c.next.new.self c.in-None.is c.next.ensures.steps in
    let long = length-zip plans ports c.requires in
    let all = end.1 in
    c.loop-port.invariant ∙ ap (calls_in plans) (take_all (length c.loop-port.yielded) ports (omega (arith, all, long)))
