use Rattle.partial_memory.proofs.Common.{machine_of}
use Rattle.partial_memory.proofs.scan.make_scan.Goals as goal

pub returns-clause-ended : goal.returns-clause-ended
returns-clause-ended c =
    let behind = c.in-Ok.ensures in
    record {
      ended = record {
        machine = machine_of c.scan.new.lines.seat.me;
        made = behind.leads.1 _ _ c.requires.begins c.begin_scan-at.ensures.made;
        replies = behind.replies;
        like = behind.rests.like;
        ahead = behind.rests.ahead;
        idle = behind.rests.idle;
        sound = behind.rests.sound;
      };
      asked = behind.asked;
      rows = behind.rows;
    }

pub returns-clause-counted : goal.returns-clause-counted
returns-clause-counted c = c.in-Ok.ensures.leads.2 _ c.begin_scan-at.ensures.counted
