use Rattle.partial_workers.proofs.{Common.rules, Hires.{calls_more, rooms_more}}
use Rattle.partial_workers.proofs.workers.jobs_of.Goals as goal

pub loop-call-preserved : goal.loop-call-preserved
loop-call-preserved c =
    let w = c.loop-call.invariant in
    record {
      calls = calls_more _ _ _ _ _ c.push_reserved.ensures.items w.calls c.loop-call-test.true c.call-item.is;
      rooms = rooms_more _ _ _ c.push_reserved.ensures.items w.rooms c.in_ok-room_for.ensures;
      count = search rules;
      room = search rules;
    }
