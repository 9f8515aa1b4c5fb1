-- What is known of the stages and the monitor as they work, and of their ports when they have ended.
use Rattle.std.specs.Prelude.{ℕ, ◌≡◌, ◌+◌, ◌<◌, ◌≤◌, ⊤, List, [], ◌∷◌, ◌++◌, length, map, slice_index, Option, Some}
use Rattle.std.specs.List.{AllByRecursion}
use Rattle.std.specs.Vec.{vec_capacity}
use Rattle.std.specs.declared.alloc.Global.{Global}
use Rattle.std.specs.declared.vec.Vec.{Vec}
use Rattle.std.specs.declared.thread.PromisedHandle.{PromisedHandle}
use Rattle.partial_model.specs.declared.call.Call.{Call}
use Rattle.partial_model.specs.declared.call.Answer.{Answer}
use Rattle.partial_model.specs.declared.call.Note.{Note}
use Rattle.partial_model.specs.declared.history.Applied.{Applied}
use Rattle.partial_model.specs.Entries.{applied_by}
use Rattle.partial_model.specs.Notes.{Noted}
use Rattle.partial_model.specs.Outcome.{places_written}
use Rattle.partial_long_lived.specs.Ports.{IsOf, Knows, MemoryView, PortView, new_ports}
use Rattle.partial_long_lived.specs.Rule.{newcomers}
use Rattle.partial_pipeline.specs.Pipeline.{AreFrom, HasWorked, Works}
use Rattle.partial_pipeline.specs.declared.monitor.Monitor.{Monitor}
use Rattle.partial_pipeline.specs.declared.run.Joined.{Joined}
use Rattle.partial_pipeline.specs.declared.run.Works.{Works as Promised}
use Rattle.partial_pipeline.specs.declared.stage.Stage.{Stage}
use Rattle.partial_pipeline.specs.declared.stage.StageEnd.{StageEnd}
use Rattle.partial_pipeline.specs.declared.stage.StageEnd.TheVariants.{Finished}
use Rattle.partial_pipeline.specs.declared.stage.Worked.{Worked}

-- the port goes on as one of its memory and number, has seen no less than it had, and has noted these calls more
pub record GoesOnNoting (p q : PortView) (new : List Noted) : Type 0 where
  pub memory : q.memory ≡ p.memory
  pub number : q.number ≡ p.number
  pub seen : length p.seen ≤ length q.seen
  pub notes : q.notes ≡ p.notes ++ new

-- the port of number k, which has made no call
pub record IsNewStage (m : MemoryView) (k : ℕ) (p : PortView) : Type 0 where
  pub own : IsOf m p
  pub number : p.number ≡ k
  pub fresh : p.notes ≡ []

-- a memory of as many stages as components, whose counts begin at 0, with a port for each and one more
pub record Opens (m : MemoryView) : Type 0 where
  pub zero : (k : ℕ) → slice_index m.about.opening.values k ≡ 0
  pub values : length m.about.opening.values ≡ m.about.sizes.m
  pub some : 0 < m.about.sizes.m
  pub few : m.about.sizes.m ≤ 63
  pub count : m.about.ports ≡ m.about.sizes.m + 1

-- such a memory with its ports
pub record IsOpened (m : MemoryView) (all : List PortView) : Type 0 where
  pub opens : Opens m
  pub ports : all ≡ new_ports m.table (newcomers m.about 0 (m.about.sizes.m + 1))

-- the value of the last of the entries, or this one when there are none
abbrev pub last_value : ℕ → List Applied → ℕ
last_value d [] = d
last_value d (e ∷ es) = last_value e.value es

-- the count that the notes of stage k last published
abbrev pub published_count : ℕ → List Noted → ℕ
published_count k ns = last_value 0 (applied_by k ns)

-- A stage at work: its count is what it published last, and what it has tried to publish is at most one more.
pub record IsWorking (m : MemoryView) (s : Stage) : Type 0 where
  pub own : IsOf m s.port
  pub inside : s.port.number < m.about.sizes.m
  pub from : ℕ
  pub none : 0 < s.port.number → from ≡ 0
  pub tried : ℕ
  pub works : Works s.port.number from 0 s.port.notes s.seen tried
  pub next : tried ≤ s.count + 1
  pub held : published_count s.port.number s.port.notes ≡ s.count
  pub most : s.count ≤ s.items
  pub all : s.port.number ≡ 0 → s.seen ≡ s.items

-- what a stage of so many items has published when it ends
pub record EndsAt (items k : ℕ) (ns : List Noted) (end : StageEnd) : Type 0 where
  pub most : published_count k ns ≤ items
  pub finished : end ≡ Finished → published_count k ns ≡ items

-- stage k has ended
pub record IsStageDone (m : MemoryView) (items k : ℕ) (w : Worked) : Type 0 where
  pub own : IsOf m w.port
  pub knows : Knows w.port.memory.about w.port.number w.port.seen w.port.notes
  pub number : w.port.number ≡ k
  pub worked : HasWorked k w.port.notes
  pub ended : EndsAt items k w.port.notes w.end

-- a thread was started for stage k
pub record IsStageStarted (m : MemoryView) (items k : ℕ) (h : PromisedHandle Worked Promised) : Type 0 where
  pub memory : h.promise.memory.value ≡ m
  pub all : h.promise.items ≡ items
  pub number : h.promise.stage ≡ k

-- the numbers of so many stages, in order
pub record IsEachStage (stages : ℕ) (numbers : List ℕ) : Type 0 where
  pub count : length numbers ≡ stages
  pub each : (k : ℕ) → k < stages → slice_index numbers k ≡ k

-- each has room for the counts of so many stages
abbrev pub AreRooms : ℕ → List (Vec ℕ Global) → Type 0
AreRooms stages rooms = AllByRecursion (λ room. length room.items ≡ stages) rooms

-- the calls are scans of these stages, and gave these counts
abbrev pub StagesWatched : List ℕ → List Noted → List (List ℕ) → Type 0
StagesWatched stages [] [] = ⊤
StagesWatched stages (n ∷ ns) (counts ∷ more) =
    (c : ℕ) × (b : Option ℕ) × (n.call ≡ Call.Scan stages) × (n.answer ≡ Answer.Scanned counts c b) × StagesWatched stages ns more
StagesWatched stages _ _ = ⊥

-- the port has noted a scan of these stages, which gave these counts, as they stood together at a place of the call: not
-- before the call began, which was after all that the port had seen
pub record Sees (p : PortView) (stages counts : List ℕ) (q : PortView) : Type 0 where
  pub place : ℕ
  pub collects : ℕ
  pub borrowed : Option ℕ
  pub goes : GoesOnNoting p q (record {
    call = Call.Scan stages;
    answer = Answer.Scanned counts collects borrowed;
    note = Some (Note.Saw place);
  } ∷ [])
  pub first : length p.seen ≤ q.began
  pub behind : q.began ≤ place
  pub each : length counts ≡ length stages

-- the monitor between two scans, with room for those to come
pub record IsWatching (m : MemoryView) (x : Monitor) : Type 0 where
  pub own : IsOf m x.port
  pub number : x.port.number ≡ m.about.sizes.m
  pub each : IsEachStage m.about.sizes.m x.stages.items
  pub rooms : AreRooms m.about.sizes.m x.rooms.items
  pub last : length x.room.items ≡ m.about.sizes.m
  pub room : length x.scans.items + length x.rooms.items ≤ vec_capacity x.scans
  pub wide : AreRooms m.about.sizes.m x.scans.items
  pub watched : StagesWatched x.stages.items x.port.notes (map (λ v. v.items) x.scans.items)

-- the port of stage k, which has ended and met the monitor: its entries lie within what the monitor has seen
pub record HasMetMonitor (m : MemoryView) (seen k : ℕ) (p : PortView) : Type 0 where
  pub own : IsOf m p
  pub number : p.number ≡ k
  pub worked : HasWorked k p.notes
  pub within : AllByRecursion (λ i. i < seen) (places_written p.notes)

-- each port with the end of its stage, from stage k on
abbrev pub EndEach : ℕ → ℕ → List PortView → List StageEnd → Type 0
EndEach items k [] [] = ⊤
EndEach items k (p ∷ ps) (e ∷ es) = EndsAt items k p.notes e × EndEach items (k + 1) ps es
EndEach items k _ _ = ⊥

-- so many stages have ended and met the monitor
pub record HaveMet (m : MemoryView) (items stages : ℕ) (r : Joined) : Type 0 where
  pub watching : IsWatching m r.monitor
  pub each : AreFrom (HasMetMonitor m (length r.monitor.port.seen)) 0 r.ports.items
  pub count : length r.ports.items ≡ stages
  pub ended : EndEach items 0 r.ports.items r.ends.items
