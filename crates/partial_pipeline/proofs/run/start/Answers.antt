use Rattle.partial_pipeline.proofs.{Common.{rules, ◌+◌, length, sym, ap, subst, ◌∙◌, arith, length_push, AreFrom, IsStageStarted, YieldsList-from_vec, YieldsList-turn}, Stages.from_push, Watching.{new_at, new_self}}
use Rattle.partial_pipeline.specs.declared.run.Works.{Works}
use Rattle.partial_pipeline.proofs.run.start.Goals as goal

pub new-stage-requires : goal.new-stage-requires
new-stage-requires g c =
    let m = c.args.memory.now in
    let all = c.args.ports.items in
    let n = length c.loop-port.yielded in
    let turn = YieldsList-turn (YieldsList-from_vec {s = c.into_iter-port-iterator.result} all (search rules) (search rules)) c.loop-port.yielded _ c.loop-port.yielded_by _ c.next.new.self
    c.in-Some.port c.in-Some.is c.next.ensures.steps in
    let new = new_at m n all c.in-Some.port c.requires.new turn.0 turn.1 in
    record { new = new_self m n c.in-Some.port new; inside = omega (arith, new.number, turn.0, c.requires.inside) }

pub push_reserved-requires : goal.push_reserved-requires
push_reserved-requires g c =
    let all = c.args.ports.items in
    let turn = YieldsList-turn (YieldsList-from_vec {s = c.into_iter-port-iterator.result} all (search rules) (search rules)) c.loop-port.yielded _ c.loop-port.yielded_by _ c.next.new.self
    c.in-Some.port c.in-Some.is c.next.ensures.steps in
    omega (arith, turn.0, c.loop-port.invariant.count, c.loop-port.invariant.room)

pub loop-port-preserved : goal.loop-port-preserved
loop-port-preserved g c =
    let m = c.args.memory.now in
    let all = c.args.ports.items in
    let n = length c.loop-port.yielded in
    let turn = YieldsList-turn (YieldsList-from_vec {s = c.into_iter-port-iterator.result} all (search rules) (search rules)) c.loop-port.yielded _ c.loop-port.yielded_by _ c.next.new.self
    c.in-Some.port c.in-Some.is c.next.ensures.steps in
    let new = new_at m n all c.in-Some.port c.requires.new turn.0 turn.1 in
    let h = c.in_ok-spawn_with.field-0 in
    let promised = c.in_ok-spawn_with.ensures.ok in
    let started : IsStageStarted m c.args.items (0 + length c.loop-port.started.items) h = record {
      memory = ap (λ (p : Works). p.memory.value) promised ∙ c.of.ensures;
      all = ap (λ (p : Works). p.items) promised;
      number = ap (λ (p : Works). p.stage) promised ∙ c.number.ensures.value ∙ new.number ∙ omega (arith, c.loop-port.invariant.count);
    } in
    let more = length_push c.loop-port.yielded c.in-Some.port in
    record {
      each = subst (AreFrom (IsStageStarted m c.args.items) 0) (sym c.push_reserved.ensures.items)
          (from_push (IsStageStarted m c.args.items) 0 c.loop-port.started.items h c.loop-port.invariant.each started);
      count = ap length c.push_reserved.ensures.items ∙ length_push c.loop-port.started.items h ∙ ap (λ k. k + 1) c.loop-port.invariant.count ∙ sym more;
      room = search rules;
    }
