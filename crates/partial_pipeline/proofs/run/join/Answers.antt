use Rattle.partial_pipeline.proofs.{Common.{rules, arith, ◌+◌, length, refl, sym, ap, ◌∙◌, length_push, YieldsList-from_vec, YieldsList-turn, YieldsList-end}, Watching.{ended_more, joined_more, started_done, watching_met}}
use Rattle.partial_pipeline.proofs.run.join.Goals as goal

pub meet-requires : goal.meet-requires
meet-requires g c =
    let m = c.args.memory.now in
    let all = c.args.started.items in
    let n = length c.loop-handle.yielded in
    let turn = YieldsList-turn (YieldsList-from_vec {s = c.into_iter-handle-iterator.result} all (search rules) (search rules)) c.loop-handle.yielded _ c.loop-handle.yielded_by _ c.next.new.self
    c.in-Some.handle c.in-Some.is c.next.ensures.steps in
    let done = started_done m c.args.items n all c.in-Some.handle c.join-port.result c.requires.started turn.0 turn.1 c.join-port.ensures in
    (c.loop-handle.invariant.watching.own, done.own)

pub push_reserved-requires : goal.push_reserved-requires
push_reserved-requires g c =
    let all = c.args.started.items in
    let turn = YieldsList-turn (YieldsList-from_vec {s = c.into_iter-handle-iterator.result} all (search rules) (search rules)) c.loop-handle.yielded _ c.loop-handle.yielded_by _ c.next.new.self
    c.in-Some.handle c.in-Some.is c.next.ensures.steps in
    omega (arith, turn.0, c.loop-handle.invariant.ports, c.loop-handle.invariant.ports_room)

pub push_reserved-requires-in-loop-handle : goal.push_reserved-requires-in-loop-handle
push_reserved-requires-in-loop-handle g c =
    let all = c.args.started.items in
    let turn = YieldsList-turn (YieldsList-from_vec {s = c.into_iter-handle-iterator.result} all (search rules) (search rules)) c.loop-handle.yielded _ c.loop-handle.yielded_by _ c.next.new.self
    c.in-Some.handle c.in-Some.is c.next.ensures.steps in
    omega (arith, turn.0, c.loop-handle.invariant.ends, c.loop-handle.invariant.ends_room)

pub loop-handle-preserved : goal.loop-handle-preserved
loop-handle-preserved g c =
    let m = c.args.memory.now in
    let all = c.args.started.items in
    let n = length c.loop-handle.yielded in
    let x = c.loop-handle.joined.monitor in
    let turn = YieldsList-turn (YieldsList-from_vec {s = c.into_iter-handle-iterator.result} all (search rules) (search rules)) c.loop-handle.yielded _ c.loop-handle.yielded_by _ c.next.new.self
    c.in-Some.handle c.in-Some.is c.next.ensures.steps in
    let done = started_done m c.args.items n all c.in-Some.handle c.join-port.result c.requires.started turn.0 turn.1 c.join-port.ensures in
    let more = length_push c.loop-handle.yielded c.in-Some.handle in
    record {
      watching = watching_met m x c.join-port.result.port c.meet.new.first c.meet.new.second c.loop-handle.invariant.watching c.meet.ensures.same.0 c.meet.ensures.met;
      each = joined_more m x c.loop-handle.joined.ports.items c.push_reserved.new.self.items c.join-port.result.port c.meet.new.first c.meet.new.second c.args.items n c.join-port.result
          c.loop-handle.invariant.each c.loop-handle.invariant.ports done refl c.meet.ensures.same.1 c.meet.ensures.met c.push_reserved.ensures.items;
      ports = ap length c.push_reserved.ensures.items ∙ length_push c.loop-handle.joined.ports.items c.meet.new.second ∙ ap (λ k. k + 1) c.loop-handle.invariant.ports ∙ sym more;
      ended = ended_more m x c.loop-handle.joined.ports.items c.push_reserved.new.self.items c.loop-handle.joined.ends.items c.push_reserved-in-loop-handle.new.self.items c.join-port.result.port
          c.meet.new.first c.meet.new.second c.args.items n c.join-port.result c.loop-handle.invariant.ended c.loop-handle.invariant.ports done refl c.meet.ensures.met
          c.push_reserved.ensures.items c.push_reserved-in-loop-handle.ensures.items;
      ends = ap length c.push_reserved-in-loop-handle.ensures.items ∙ length_push c.loop-handle.joined.ends.items c.join-port.result.end ∙ ap (λ k. k + 1) c.loop-handle.invariant.ends ∙ sym more;
      ports_room = search rules;
      ends_room = search rules;
    }

pub returns : goal.returns
returns g c =
    let all = c.args.started.items in
    let end = YieldsList-end (YieldsList-from_vec {s = c.into_iter-handle-iterator.result} all (search rules) (search rules)) c.loop-handle.yielded _ c.loop-handle.yielded_by _ c.next.new.self
    c.in-None.is c.next.ensures.steps in
    record {
      watching = c.loop-handle.invariant.watching;
      each = c.loop-handle.invariant.each;
      count = c.loop-handle.invariant.ports ∙ end.1;
      ended = c.loop-handle.invariant.ended;
    }
