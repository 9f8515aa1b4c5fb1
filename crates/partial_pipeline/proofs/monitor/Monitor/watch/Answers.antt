use Rattle.partial_pipeline.proofs.{Common.{arith, ℕ, ◌≡◌, ◌∷◌, [], length, sym, subst, Global, Vec, all_back, AreRooms, IsEachStage}, Watching.{watching_more, watching_refused}}
use Rattle.partial_pipeline.proofs.monitor.Monitor.watch.Goals as goal

pub scan_into-requires : goal.scan_into-requires
scan_into-requires g c =
    let m = c.args.memory.now in
    let w = c.loop-room.invariant in
    let rooms = subst (AreRooms m.about.sizes.m) c.in-Some.ensures.items w.rooms in
    record {
      own = w.own;
      stages = subst (IsEachStage m.about.sizes.m) (sym c.deref.ensures.value) w.each;
      some = c.requires.some;
      room = (all_back (λ (v : Vec ℕ Global). length v.items ≡ m.about.sizes.m) c.pop.new.self.items (c.in-Some.room ∷ []) rooms).0;
    }

pub loop-room-preserved : goal.loop-room-preserved
loop-room-preserved g c =
    watching_more c.args.memory.now c.loop-room.self c.scan_into.new.port c.pop.new.self c.push_reserved.new.self c.in-Some.room c.in-Some-scan_into.counts c.deref.result.now c.loop-room.invariant
    c.in-Some.ensures.items c.deref.ensures.value c.scan_into.ensures.own c.in-Some-scan_into.ensures.some c.push_reserved.ensures.items (omega (arith, c.push_reserved.ensures.capacity))

pub returns-in_default-scan_into : goal.returns-in_default-scan_into
returns-in_default-scan_into g c =
    watching_refused c.args.memory.now c.loop-room.self c.scan_into.new.port c.pop.new.self c.in-Some.room c.loop-room.invariant c.in-Some.ensures.items c.scan_into.ensures.own
    (c.scan_into.ensures.none c.in_default-scan_into.is)

pub returns-then-are_over : goal.returns-then-are_over
returns-then-are_over g c =
    watching_more c.args.memory.now c.loop-room.self c.scan_into.new.port c.pop.new.self c.push_reserved.new.self c.in-Some.room c.in-Some-scan_into.counts c.deref.result.now c.loop-room.invariant
    c.in-Some.ensures.items c.deref.ensures.value c.scan_into.ensures.own c.in-Some-scan_into.ensures.some c.push_reserved.ensures.items (omega (arith, c.push_reserved.ensures.capacity))
