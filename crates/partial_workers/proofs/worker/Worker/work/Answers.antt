use Rattle.partial_workers.proofs.{Common.{rules, ◌≡◌, ◌<◌, ◌+◌, List, length, take, slice_index_or, sym, ap, subst, ◌∙◌, arith, YieldsList-from_vec, YieldsList-turn, YieldsList-end, length-map, length_push, take_all, Answer, AreMade, calls_of, Job}, Made.made_next, Pairs.map_at}
use Rattle.partial_workers.proofs.worker.Worker.work.Goals as goal

pub loop-job-preserved : goal.loop-job-preserved
loop-job-preserved g c =
    let m = c.args.memory.now.about.sizes.m in
    let all = c.args.self.jobs.items in
    let job = c.in-Some.job in
    let old = c.loop-job.answers.items in
    let answer = c.make-answer.result in
    let q = c.make-answer.new.port in
    let after = c.push_reserved.new.self.items in
    let had = c.loop-job.invariant in
    let turn = YieldsList-turn (YieldsList-from_vec {s = c.into_iter-job-iterator.result} all (search rules) (search rules)) c.loop-job.yielded _ c.loop-job.yielded_by _ c.next.new.self job
    c.in-Some.is c.next.ensures.steps in
    let within : length old < length all = omega (arith, had.count, turn.0) in
    let at : job ≡ slice_index_or all (length old) job = turn.1 ∙ ap (λ k. slice_index_or all k job) (sym had.count) in
    let place = map_at (λ (j : Job). j.call.now) (length old) all job within at in
    let long : length (calls_of all) ≡ length all = length-map all (λ (j : Job). j.call.now) in
    let items = c.push_reserved.ensures.items in
    let more : length after ≡ length old + 1 = ap length items ∙ length_push old answer in
    let told = made_next m (length old) (length after) (calls_of all) old job.call.now answer c.loop-job.port q had.made (omega (arith, within, long)) place more c.make-answer.ensures.made in
    record {
      own = search rules;
      number = search rules;
      made = subst (λ (l : List Answer). AreMade m (take (length after) (calls_of all)) l q) (sym {A = List Answer} items) told;
      count = more ∙ ap (λ k. k + 1) had.count ∙ sym (length_push c.loop-job.yielded job);
      room = search rules;
    }

pub returns-clause-made : goal.returns-clause-made
returns-clause-made g c =
    let m = c.args.memory.now.about.sizes.m in
    let all = c.args.self.jobs.items in
    let given = c.loop-job.answers.items in
    let had = c.loop-job.invariant in
    let end = YieldsList-end (YieldsList-from_vec {s = c.into_iter-job-iterator.result} all (search rules) (search rules)) c.loop-job.yielded _ c.loop-job.yielded_by _ c.next.new.self
    c.in-None.is c.next.ensures.steps in
    let long : length (calls_of all) ≡ length all = length-map all (λ (j : Job). j.call.now) in
    subst (λ l. AreMade m l given c.loop-job.port) (take_all (length given) (calls_of all) (omega (arith, had.count, end.1, long))) had.made
