use Rattle.partial_workers.proofs.{Common.{rules, ◌+◌, ◌++◌, [], ◌∷◌, length, sym, ap, subst, ◌∙◌, arith, YieldsList-from_vec, YieldsList-turn, YieldsList-end, length_push, take_all, HaveCome, IsWorkStarted}, Hires.{come_more, done_as_started}, Pairs.each_length}
use Rattle.partial_workers.proofs.workers.join.Goals as goal

pub loop-handle-preserved : goal.loop-handle-preserved
loop-handle-preserved g c =
    let all = c.args.started.items in
    let n = length c.loop-handle.yielded in
    let turn = YieldsList-turn (YieldsList-from_vec {s = c.into_iter-handle-iterator.result} all (search rules) (search rules)) c.loop-handle.yielded _ c.loop-handle.yielded_by _ c.next.new.self
    c.in-Some.handle c.in-Some.is c.next.ensures.steps in
    let more = length_push c.loop-handle.yielded c.in-Some.handle in
    record {
      come = λ m plan started.
          let done = done_as_started m n plan all c.in-Some.handle c.join-port.result started turn.0 turn.1 c.join-port.ensures in
          come_more m n (length (c.loop-handle.yielded ++ c.in-Some.handle ∷ [])) plan c.loop-handle.results _ done.0 c.join-port.result (c.loop-handle.invariant.come m plan started)
          (omega (arith, turn.0, each_length (IsWorkStarted m) 0 plan all started)) done.1 done.2 more c.push_reserved.ensures.items c.push_reserved-in-loop-handle.ensures.items;
      ports = ap length c.push_reserved.ensures.items ∙ length_push c.loop-handle.results.ports.items c.join-port.result.port ∙ ap (λ k. k + 1) c.loop-handle.invariant.ports ∙ sym more;
      answers = ap length c.push_reserved-in-loop-handle.ensures.items ∙ length_push c.loop-handle.results.answers.items c.join-port.result.answers ∙ ap (λ k. k + 1)
          c.loop-handle.invariant.answers ∙ sym more;
      ports_room = search rules;
      answers_room = search rules;
    }

pub returns : goal.returns
returns g c = λ m plan started.
    let all = c.args.started.items in
    let end = YieldsList-end (YieldsList-from_vec {s = c.into_iter-handle-iterator.result} all (search rules) (search rules)) c.loop-handle.yielded _ c.loop-handle.yielded_by _ c.next.new.self
    c.in-None.is c.next.ensures.steps in
    let long = each_length (IsWorkStarted m) 0 plan all started in
    subst (λ l. HaveCome m l c.loop-handle.results) (take_all (length c.loop-handle.yielded) plan (omega (arith, long, end.1))) (c.loop-handle.invariant.come m plan started)
