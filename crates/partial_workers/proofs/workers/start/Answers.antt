use Rattle.partial_workers.proofs.{Common.{rules, ◌≡◌, ◌+◌, ◌++◌, List, [], ◌∷◌, length, map, take, slice_index_or, Bor, sym, ap, subst, ◌∙◌, arith, YieldsList-from_vec, YieldsList-turn, YieldsList-end, length-map, length_push, take_all, Call, AreEach, IsHired, IsWorkStarted, calls_of, Works}, Hires.done_alike, Pairs.{each_at, each_length, each_push, each_some, map_at}}
use Rattle.partial_workers.proofs.workers.start.Goals as goal

pub bounds-calls-port : goal.bounds-calls-port
bounds-calls-port g c =
    let m = c.args.memory.now in
    let given = c.args.calls.now in
    let plan = map (λ (b : Bor (List Call)). b.now) given in
    let all = c.args.workers.items in
    let turn = YieldsList-turn (YieldsList-from_vec {s = c.into_iter-worker-iterator.result} all (search rules) (search rules)) c.loop-worker.yielded _ c.loop-worker.yielded_by _ c.next.new.self
    c.in-Some.worker c.in-Some.is c.next.ensures.steps in
    let some = each_some (IsHired m) 0 (length c.loop-worker.yielded) plan all c.in-Some.worker c.requires turn.0 turn.1 in
    let long = each_length (IsHired m) 0 plan all c.requires in
    let same = length-map given (λ (b : Bor (List Call)). b.now) in
    omega (arith, turn.0, long, same, some.1.number, c.number-port.ensures.value)

pub spawn_with-requires-clause-runs : goal.spawn_with-requires-clause-runs
spawn_with-requires-clause-runs g c =
    let m = c.args.memory.now in
    let given = c.args.calls.now in
    let plan = map (λ (b : Bor (List Call)). b.now) given in
    let all = c.args.workers.items in
    let turn = YieldsList-turn (YieldsList-from_vec {s = c.into_iter-worker-iterator.result} all (search rules) (search rules)) c.loop-worker.yielded _ c.loop-worker.yielded_by _ c.next.new.self
    c.in-Some.worker c.in-Some.is c.next.ensures.steps in
    let some = each_some (IsHired m) 0 (length c.loop-worker.yielded) plan all c.in-Some.worker c.requires turn.0 turn.1 in
    λ κs lives. ((some.1.own, some.1.ready), search rules)

pub spawn_with-requires-clause-keeps : goal.spawn_with-requires-clause-keeps
spawn_with-requires-clause-keeps g c =
    let m = c.args.memory.now in
    let given = c.args.calls.now in
    let plan = map (λ (b : Bor (List Call)). b.now) given in
    let all = c.args.workers.items in
    let n = length c.loop-worker.yielded in
    let worker = c.in-Some.worker in
    let turn = YieldsList-turn (YieldsList-from_vec {s = c.into_iter-worker-iterator.result} all (search rules) (search rules)) c.loop-worker.yielded _ c.loop-worker.yielded_by _ c.next.new.self
    worker c.in-Some.is c.next.ensures.steps in
    let some = each_some (IsHired m) 0 n plan all worker c.requires turn.0 turn.1 in
    let place : c.number-port.result ≡ n = c.number-port.ensures.value ∙ some.1.number ∙ omega arith in
    let own = c.index-calls-port.result in
    let calls : List Call = own.now in
    let same = length-map given (λ (b : Bor (List Call)). b.now) in
    let long = each_length (IsHired m) 0 plan all c.requires in
    let at : calls ≡ slice_index_or plan n calls = map_at (λ (b : Bor (List Call)). b.now) n given own (omega (arith, turn.0, long, same)) (c.index-calls-port.is ∙ ap (λ i. slice_index_or given i own) place) in
    let mine : IsHired m (0 + n) calls worker = each_at (IsHired m) 0 n plan all calls worker c.requires turn.0 at turn.1 in
    λ κs lives r done. done_alike m c.of.result.value worker.port.number c.number-port.result (calls_of worker.jobs.items) c.of-in-loop-worker.result.value.now r
    done c.of.ensures c.number-port.ensures.value (ap (λ (b : Bor (List Call)). b.now) c.of-in-loop-worker.ensures ∙ sym mine.jobs)

pub push_reserved-requires : goal.push_reserved-requires
push_reserved-requires g c =
    let given = c.args.calls.now in
    let plan = map (λ (b : Bor (List Call)). b.now) given in
    let all = c.args.workers.items in
    let turn = YieldsList-turn (YieldsList-from_vec {s = c.into_iter-worker-iterator.result} all (search rules) (search rules)) c.loop-worker.yielded _ c.loop-worker.yielded_by _ c.next.new.self
    c.in-Some.worker c.in-Some.is c.next.ensures.steps in
    let long = each_length (IsHired c.args.memory.now) 0 plan all c.requires in
    omega (arith, turn.0, long, length-map given (λ (b : Bor (List Call)). b.now), c.loop-worker.invariant.count, c.loop-worker.invariant.room, c.loop-worker.started.ok.0)

pub loop-worker-preserved : goal.loop-worker-preserved
loop-worker-preserved g c =
    let m = c.args.memory.now in
    let given = c.args.calls.now in
    let plan = map (λ (b : Bor (List Call)). b.now) given in
    let all = c.args.workers.items in
    let n = length c.loop-worker.yielded in
    let worker = c.in-Some.worker in
    let turn = YieldsList-turn (YieldsList-from_vec {s = c.into_iter-worker-iterator.result} all (search rules) (search rules)) c.loop-worker.yielded _ c.loop-worker.yielded_by _ c.next.new.self
    worker c.in-Some.is c.next.ensures.steps in
    let some = each_some (IsHired m) 0 n plan all worker c.requires turn.0 turn.1 in
    let place : c.number-port.result ≡ n = c.number-port.ensures.value ∙ some.1.number ∙ omega arith in
    let own = c.index-calls-port.result in
    let calls : List Call = own.now in
    let same = length-map given (λ (b : Bor (List Call)). b.now) in
    let long = each_length (IsHired m) 0 plan all c.requires in
    let at : calls ≡ slice_index_or plan n calls = map_at (λ (b : Bor (List Call)). b.now) n given own (omega (arith, turn.0, long, same)) (c.index-calls-port.is ∙ ap (λ i. slice_index_or given i own) place) in
    let h = c.in_ok-spawn_with.field-0 in
    let promised = c.in_ok-spawn_with.ensures.ok in
    let started : IsWorkStarted m (0 + n) calls h = record {
      memory = ap (λ (p : Works). p.memory.value) promised ∙ c.of.ensures;
      number = ap (λ (p : Works). p.port) promised ∙ place ∙ omega arith;
      calls = ap (λ (p : Works). p.calls.value.now) promised ∙ ap (λ (b : Bor (List Call)). b.now) c.of-in-loop-worker.ensures;
    } in
    let more = length_push c.loop-worker.yielded worker in
    record {
      each = subst (AreEach (IsWorkStarted m) 0 (take (length (c.loop-worker.yielded ++ worker ∷ [])) plan)) (sym c.push_reserved.ensures.items)
          (each_push (IsWorkStarted m) 0 n (length (c.loop-worker.yielded ++ worker ∷ [])) plan c.loop-worker.started.items calls h c.loop-worker.invariant.each
          (omega (arith, turn.0, long)) at started more);
      count = ap length c.push_reserved.ensures.items ∙ length_push c.loop-worker.started.items h ∙ ap (λ k. k + 1) c.loop-worker.invariant.count ∙ sym more;
      room = search rules;
    }

pub returns : goal.returns
returns g c =
    let m = c.args.memory.now in
    let given = c.args.calls.now in
    let plan = map (λ (b : Bor (List Call)). b.now) given in
    let all = c.args.workers.items in
    let end = YieldsList-end (YieldsList-from_vec {s = c.into_iter-worker-iterator.result} all (search rules) (search rules)) c.loop-worker.yielded _ c.loop-worker.yielded_by _ c.next.new.self
    c.in-None.is c.next.ensures.steps in
    let long = each_length (IsHired m) 0 plan all c.requires in
    subst (λ l. AreEach (IsWorkStarted m) 0 l c.loop-worker.started.items) (take_all (length c.loop-worker.yielded) plan (omega (arith, long, end.1))) c.loop-worker.invariant.each
