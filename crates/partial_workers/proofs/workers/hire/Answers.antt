use Rattle.partial_workers.proofs.{Common.{rules, ◌≡◌, ◌+◌, ◌++◌, List, [], ◌∷◌, length, map, slice_index_or, Bor, sym, ap, subst, ◌∙◌, arith, YieldsList-from_vec, YieldsList-turn, YieldsList-end, length-map, length_push, take_all, Call, AreEach, IsHired, IsNewWork, calls_of, Worker}, Hires.{as_many, hired, hire_more}, Pairs.{each_at, each_length, each_some, map_at}}
use Rattle.partial_workers.proofs.workers.hire.Goals as goal

pub bounds-calls-number : goal.bounds-calls-number
bounds-calls-number c =
    let m = c.args.memory.now in
    let given = c.args.calls.now in
    let plan = map (λ (b : Bor (List Call)). b.now) given in
    let all = c.args.ports.items in
    let turn = YieldsList-turn (YieldsList-from_vec {s = c.into_iter-port-iterator.result} all (search rules) (search rules)) c.loop-port.yielded _ c.loop-port.yielded_by _ c.next.new.self
    c.in-Some.port c.in-Some.is c.next.ensures.steps in
    let new = each_some (IsNewWork m) 0 (length c.loop-port.yielded) plan all c.in-Some.port c.requires turn.0 turn.1 in
    let long = each_length (IsNewWork m) 0 plan all c.requires in
    let same = length-map given (λ (b : Bor (List Call)). b.now) in
    omega (arith, turn.0, long, same, new.1.number, c.number.ensures.value)

pub loop-port-preserved : goal.loop-port-preserved
loop-port-preserved c =
    let m = c.args.memory.now in
    let given = c.args.calls.now in
    let plan = map (λ (b : Bor (List Call)). b.now) given in
    let all = c.args.ports.items in
    let n = length c.loop-port.yielded in
    let turn = YieldsList-turn (YieldsList-from_vec {s = c.into_iter-port-iterator.result} all (search rules) (search rules)) c.loop-port.yielded _ c.loop-port.yielded_by _ c.next.new.self
    c.in-Some.port c.in-Some.is c.next.ensures.steps in
    let some = each_some (IsNewWork m) 0 n plan all c.in-Some.port c.requires turn.0 turn.1 in
    let long = each_length (IsNewWork m) 0 plan all c.requires in
    let place : c.number.result ≡ n = c.number.ensures.value ∙ some.1.number ∙ omega arith in
    let own = c.index-calls-number.result in
    let calls : List Call = own.now in
    let same = length-map given (λ (b : Bor (List Call)). b.now) in
    let at : calls ≡ slice_index_or plan n calls = map_at (λ (b : Bor (List Call)). b.now) n given own (omega (arith, turn.0, long, same)) (c.index-calls-number.is ∙ ap (λ i. slice_index_or given i own) place) in
    let new : IsNewWork m (0 + n) calls c.in-Some.port = each_at (IsNewWork m) 0 n plan all calls c.in-Some.port c.requires turn.0 at turn.1 in
    let zero_more : 0 + n ≡ n = omega arith in
    let worker : Worker = record { port = c.in-Some.port; jobs = c.in_ok-jobs.jobs; answers = c.in_ok-answers.answers } in
    let jobs : calls_of c.in_ok-jobs.jobs.items ≡ calls = c.in_ok-jobs.ensures.calls in
    let hire = hired m n calls worker (subst (λ i. IsNewWork m i calls c.in-Some.port) zero_more new) jobs c.in_ok-jobs.ensures.rooms c.in_ok-answers.ensures.items (search rules)
    (as_many c.in_ok-jobs.jobs.items calls jobs) in
    record {
      each = hire_more m n (length (c.loop-port.yielded ++ c.in-Some.port ∷ [])) plan c.loop-port.workers.items c.push_reserved.new.self.items calls worker c.loop-port.invariant.each
          (omega (arith, turn.0, long)) at hire (length_push c.loop-port.yielded c.in-Some.port) c.push_reserved.ensures.items;
      count = ap length c.push_reserved.ensures.items ∙ length_push c.loop-port.workers.items worker ∙ ap (λ k. k + 1) c.loop-port.invariant.count ∙
          sym (length_push c.loop-port.yielded c.in-Some.port);
      room = search rules;
    }

pub returns : goal.returns
returns c =
    let given = c.args.calls.now in
    let plan = map (λ (b : Bor (List Call)). b.now) given in
    let all = c.args.ports.items in
    let end = YieldsList-end (YieldsList-from_vec {s = c.into_iter-port-iterator.result} all (search rules) (search rules)) c.loop-port.yielded _ c.loop-port.yielded_by _ c.next.new.self c.in-None.is
    c.next.ensures.steps in
    let long = each_length (IsNewWork c.args.memory.now) 0 plan all c.requires in
    subst (λ l. AreEach (IsHired c.args.memory.now) 0 l c.loop-port.workers.items) (take_all (length c.loop-port.yielded) plan (omega (arith, long, end.1))) c.loop-port.invariant.each
