-- The monitor: one scan more, and a meeting. And the threads of the stages.
use Rattle.partial_pipeline.proofs.{Common.{ℕ, zero, suc, ◌≡◌, ◌+◌, ◌<◌, ◌≤◌, ◌++◌, List, [], ◌∷◌, length, map, slice_index_or, refl, sym, ◌∙◌, ap, subst, append-nil, arith, AllByRecursion, vec_capacity, length_push, map-append, all_append, all_front, Meets, IsOf, Knows, MemoryView, PortView, new_ports, AreFrom, HasWorked, EndEach, EndsAt, HasMetMonitor, IsStageDone, IsNewStage, IsOpened, IsStageStarted, IsWatching, GoesOnNoting, Sees, StagesWatched, StageEnd, Global, Vec, Worked}, Stages.{done_alike, ends_more, from_front, from_get, goes_more, has_met, met_more, none_more, seen_grows, watched_sees}}
use Rattle.std.specs.declared.thread.PromisedHandle.{PromisedHandle}
use Rattle.partial_long_lived.specs.Rule.{newcomers}
use Rattle.partial_pipeline.specs.declared.monitor.Monitor.{Monitor}
use Rattle.partial_pipeline.specs.declared.run.Works.{Works as Promised}

-- ---- the monitor

-- the monitor has made a scan in a room that it had
pub watching_more : (m : MemoryView) (x : Monitor) (q : PortView) (rooms scans : Vec (Vec ℕ Global) Global) (room counts : Vec ℕ Global) (stages : List ℕ) → IsWatching m x →
    x.rooms.items ≡ rooms.items ++ room ∷ [] → stages ≡ x.stages.items → IsOf m q → Sees x.port stages counts.items q → scans.items ≡ x.scans.items ++ counts ∷ [] →
    vec_capacity x.scans ≤ vec_capacity scans → IsWatching m (record { port = q; stages = x.stages; rooms = rooms; scans = scans; room = x.room })
watching_more m x q rooms scans room counts stages w popped same own sees pushed capacity =
    let s : Sees x.port x.stages.items counts.items q = subst (λ (l : List ℕ). Sees x.port l counts.items q) same sees in
    let Fits : Vec ℕ Global → Type 0 = λ v. length v.items ≡ m.about.sizes.m in
    let many : map (λ (v : Vec ℕ Global). v.items) scans.items ≡ map (λ (v : Vec ℕ Global). v.items) x.scans.items ++ counts.items ∷ [] = ap (map (λ (v : Vec ℕ Global). v.items)) pushed ∙ map-append
    (λ (v : Vec ℕ Global). v.items) x.scans.items (counts ∷ []) in
    let more = ap length pushed ∙ length_push x.scans.items counts in
    let less = ap length popped ∙ length_push rooms.items room in
    record {
      own = own;
      number = s.goes.number ∙ w.number;
      each = w.each;
      rooms = all_front Fits rooms.items (room ∷ []) (subst (λ (l : List (Vec ℕ Global)). AllByRecursion Fits l) popped w.rooms);
      last = w.last;
      room = omega (arith, more, less, capacity, w.room);
      wide = subst (λ (l : List (Vec ℕ Global)). AllByRecursion Fits l) (sym pushed) (all_append Fits x.scans.items (counts ∷ []) w.wide (s.each ∙ w.each.count, tt));
      watched = subst (StagesWatched x.stages.items q.notes) (sym many) (watched_sees x.port q x.stages.items counts.items (map (λ (v : Vec ℕ Global). v.items) x.scans.items) w.watched s);
    }

-- a scan of the monitor was refused
pub watching_refused : (m : MemoryView) (x : Monitor) (q : PortView) (rooms : Vec (Vec ℕ Global) Global) (room : Vec ℕ Global) → IsWatching m x → x.rooms.items ≡ rooms.items ++ room ∷ [] → IsOf m q →
    GoesOnNoting x.port q [] → IsWatching m (record { port = q; stages = x.stages; rooms = rooms; scans = x.scans; room = x.room })
watching_refused m x q rooms room w popped own n =
    let Fits : Vec ℕ Global → Type 0 = λ v. length v.items ≡ m.about.sizes.m in
    let less = ap length popped ∙ length_push rooms.items room in
    record {
      own = own;
      number = n.number ∙ w.number;
      each = w.each;
      rooms = all_front Fits rooms.items (room ∷ []) (subst (λ (l : List (Vec ℕ Global)). AllByRecursion Fits l) popped w.rooms);
      last = w.last;
      room = omega (arith, less, w.room);
      wide = w.wide;
      watched = none_more (λ ns. StagesWatched x.stages.items ns (map (λ (v : Vec ℕ Global). v.items) x.scans.items)) x.port q n w.watched;
    }

-- the monitor has met another port
pub watching_met : (m : MemoryView) (x : Monitor) (b c d : PortView) → IsWatching m x → IsOf m c → Meets x.port b c d →
    IsWatching m (record { port = c; stages = x.stages; rooms = x.rooms; scans = x.scans; room = x.room })
watching_met m x b c d w own meets =
    let n = goes_more x.port c [] meets.first in
    record {
      own = own;
      number = n.number ∙ w.number;
      each = w.each;
      rooms = w.rooms;
      last = w.last;
      room = w.room;
      wide = w.wide;
      watched = none_more (λ ns. StagesWatched x.stages.items ns (map (λ (v : Vec ℕ Global). v.items) x.scans.items)) x.port c n w.watched;
    }

-- ---- the threads

-- a thread that was started for a stage has ended
pub started_done : (m : MemoryView) (items n : ℕ) (all : List (PromisedHandle Worked Promised)) (h : PromisedHandle Worked Promised) (w : Worked) → AreFrom (IsStageStarted m items) 0 all →
    n < length all → h ≡ slice_index_or all n h → IsStageDone h.promise.memory.value h.promise.items h.promise.stage w → IsStageDone m items n w
started_done m items n all h w started within is kept =
    let s = from_get (IsStageStarted m items) 0 n all h started within is in
    let number : n ≡ h.promise.stage = omega (arith, s.number) in
    done_alike h.promise.memory.value m h.promise.items items h.promise.stage n w kept (sym s.memory) (sym s.all) number

-- one stage more has ended and met the monitor
pub joined_more : (m : MemoryView) (x : Monitor) (ports after : List PortView) (b c d : PortView) (items n : ℕ) (w : Worked) → AreFrom (HasMetMonitor m (length x.port.seen)) 0 ports →
    length ports ≡ n →
    IsStageDone m items n w → b ≡ w.port → IsOf m d → Meets x.port b c d → after ≡ ports ++ d ∷ [] → AreFrom (HasMetMonitor m (length c.seen)) 0 after
joined_more m x ports after b c d items n w had many done same own meets is =
    let number : b.number ≡ length ports = ap (λ (p : PortView). p.number) same ∙ done.number ∙ sym many in
    let worked = subst (λ (p : PortView). HasWorked n p.notes) (sym same) done.worked in
    let knows = subst (λ (p : PortView). Knows p.memory.about p.number p.seen p.notes) (sym same) done.knows in
    let new = has_met m (length ports) x.port b c d own knows number (subst (λ i. HasWorked i b.notes) (sym many) worked) meets in
    subst (AreFrom (HasMetMonitor m (length c.seen)) 0) (sym is) (met_more m (length x.port.seen) (length c.seen) ports d (seen_grows x.port b c d meets) had new)

-- and the end of that stage comes after those of the others
pub ended_more : (m : MemoryView) (x : Monitor) (ports after : List PortView) (ends ended : List StageEnd) (b c d : PortView) (items n : ℕ) (w : Worked) → EndEach items 0 ports ends →
    length ports ≡ n → IsStageDone m items n w → b ≡ w.port → Meets x.port b c d → after ≡ ports ++ d ∷ [] → ended ≡ ends ++ w.end ∷ [] → EndEach items 0 after ended
ended_more m x ports after ends ended b c d items n w had many done same meets is ends_is =
    let notes : d.notes ≡ w.port.notes = meets.second.notes ∙ append-nil b.notes ∙ ap (λ (p : PortView). p.notes) same in
    let number : n ≡ 0 + length ports = omega (arith, many) in
    let at : EndsAt items (0 + length ports) d.notes w.end = subst (λ i. EndsAt items i d.notes w.end) number (subst (λ ns. EndsAt items n ns w.end) (sym notes) done.ended) in
    subst (λ l. EndEach items 0 l ended) (sym is) (subst (EndEach items 0 (ports ++ d ∷ [])) (sym ends_is) (ends_more items 0 ports ends d w.end had at))

-- a new port at a place
pub new_at : (m : MemoryView) (n : ℕ) (all : List PortView) (p : PortView) → AreFrom (IsNewStage m) 0 all → n < length all → p ≡ slice_index_or all n p → IsNewStage m n p
new_at m n all p new within is =
    let same : 0 + n ≡ n = omega arith in
    subst (λ i. IsNewStage m i p) same (from_get (IsNewStage m) 0 n all p new within is)

pub new_self : (m : MemoryView) (n : ℕ) (p : PortView) → IsNewStage m n p → IsNewStage m p.number p
new_self m n p w = record { own = w.own; number = refl; fresh = w.fresh }

-- ---- the ports of a memory that was opened

new_from : (m : MemoryView) (k n : ℕ) → AreFrom (IsNewStage m) k (new_ports m.table (newcomers m.about k n))
new_from m k zero = tt
new_from m k (suc n) = (record { own = refl; number = refl; fresh = refl }, new_from m (k + 1) n)

new_count : (m : MemoryView) (k n : ℕ) → length (new_ports m.table (newcomers m.about k n)) ≡ n
new_count m k zero = refl
new_count m k (suc n) = ap suc (new_count m (k + 1) n)

-- the stages' ports, and the monitor's after them
pub opened_stages : (m : MemoryView) (all rest : List PortView) (last : PortView) → IsOpened m all → all ≡ rest ++ last ∷ [] → AreFrom (IsNewStage m) 0 rest × (length rest ≡ m.about.sizes.m) ×
    IsNewStage m m.about.sizes.m last
opened_stages m all rest last w is =
    let new : AreFrom (IsNewStage m) 0 (rest ++ last ∷ []) = subst (AreFrom (IsNewStage m) 0) (sym w.ports ∙ is) (new_from m 0 (m.about.sizes.m + 1)) in
    let count : length rest + 1 ≡ m.about.sizes.m + 1 = sym (length_push rest last) ∙ sym (ap length is) ∙ ap length w.ports ∙ new_count m 0 (m.about.sizes.m + 1) in
    let long : length rest ≡ m.about.sizes.m = omega arith in
    let both = from_front (IsNewStage m) 0 rest last new in
    let same : 0 + length rest ≡ m.about.sizes.m = omega arith in
    (both.0, long, subst (λ i. IsNewStage m i last) same both.1)
