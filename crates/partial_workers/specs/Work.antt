-- What is known of the calls of one port: those that it has noted, and those between them that were refused or asked for nothing.
use Rattle.std.specs.Prelude.{ℕ, ◌≡◌, ◌++◌, ◌<◌, ◌≤◌, ◌^◌, ◌⊎◌, List, [], ◌∷◌, length, map, Some, None}
use Rattle.std.specs.List.{AllByRecursion}
use Rattle.std.specs.Vec.{vec_capacity}
use Rattle.std.specs.declared.alloc.Global.{Global}
use Rattle.std.specs.declared.vec.Vec.{Vec}
use Rattle.std.specs.declared.thread.PromisedHandle.{PromisedHandle}
use Rattle.partial_model.specs.declared.call.Call.{Call}
use Rattle.partial_model.specs.declared.call.Answer.{Answer}
use Rattle.partial_model.specs.declared.call.Note.{Note}
use Rattle.partial_model.specs.declared.call.Refused.{Refused}
use Rattle.partial_model.specs.Notes.{Noted, MayBeRefused, seen_after, seen_by}
use Rattle.partial_memory.specs.Ports.{IsOf, MemoryView, PortView, new_ports}
use Rattle.partial_memory.specs.Lawfulness.{ClosesLawfully}
use Rattle.partial_memory.specs.Rule.{newcomers}
use Rattle.partial_memory.specs.declared.closed.Closed.{Closed}
use Rattle.partial_workers.specs.declared.worker.Job.{Job}
use Rattle.partial_workers.specs.declared.worker.Worked.{Worked}
use Rattle.partial_workers.specs.declared.worker.Worker.{Worker}
use Rattle.partial_workers.specs.declared.workers.Works.{Works}
use Rattle.partial_workers.specs.declared.workers.Results.{Results}
use Rattle.partial_workers.specs.Answered.{AreEach, IsCallWithin}

-- the call was refused for a cause for which it may be
abbrev pub WasRefused : ℕ → Noted → Type 0
WasRefused m n = (cause : Refused) × (n.answer ≡ Answer.Refused cause) × (n.note ≡ None) × MayBeRefused m n.call cause

-- a scan of no position, which saw nothing more than the calls before it
abbrev pub WasEmpty : ℕ → Noted → Type 0
WasEmpty seen n = (n.call ≡ Call.Scan []) × (n.answer ≡ Answer.Scanned [] 0 None) × (n.note ≡ Some (Note.Saw seen))

-- a port doesn't note the call
abbrev pub IsUnnoted : ℕ → ℕ → Noted → Type 0
IsUnnoted m seen n = WasRefused m n ⊎ WasEmpty seen n

-- the second list has the notes of the first in their order, and between them those of calls that the port doesn't note
abbrev pub Fills : ℕ → ℕ → List Noted → List Noted → Type 0
Fills m seen kept [] = kept ≡ []
Fills m seen kept (n ∷ ns) =
    (IsUnnoted m seen n × Fills m (seen_after seen n.note) kept ns)
    ⊎ ((rest : List Noted) × (kept ≡ n ∷ rest) × Fills m (seen_after seen n.note) rest ns)

-- a call was made: the port has noted it, or it is one that no port notes
pub record IsMade (m : ℕ) (p : PortView) (c : Call) (a : Answer) (q : PortView) : Type 0 where
  pub noted : Noted
  pub call : noted.call ≡ c
  pub answer : noted.answer ≡ a
  pub notes : (q.notes ≡ p.notes ++ noted ∷ []) ⊎ (IsUnnoted m (seen_by 0 p.notes) noted × (q.notes ≡ p.notes))

-- these calls were made and had these answers, and the port has noted no others
pub record AreMade (m : ℕ) (made : List Call) (given : List Answer) (q : PortView) : Type 0 where
  pub all : List Noted
  pub calls : map (λ n. n.call) all ≡ made
  pub answers : map (λ n. n.answer) all ≡ given
  pub fills : Fills m 0 q.notes all

-- the values of a scan have room
abbrev pub ScanHasRoom : ℕ → Call → List ℕ → Type 0
ScanHasRoom m (Call.Scan js) room = (length room ≡ length js) × (length js ≤ m)
ScanHasRoom m _ room = Unit {0}

-- the calls of a worker
abbrev pub calls_of : List Job → List Call
calls_of jobs = map (λ j. j.call.now) jobs

-- each call that a memory can be asked for has its room
abbrev pub HaveRooms : List Job → Type 0
HaveRooms jobs = (m : ℕ) → AllByRecursion (IsCallWithin m) (calls_of jobs) →
    AllByRecursion (λ j. ScanHasRoom m j.call.now j.room.items) jobs

-- a worker whose port has made no call, with room for its answers and their values
pub record IsWorkerReady (m : ℕ) (w : Worker) : Type 0 where
  pub fresh : w.port.notes ≡ []
  pub rooms : AllByRecursion (λ j. ScanHasRoom m j.call.now j.room.items) w.jobs.items
  pub empty : w.answers.items ≡ []
  pub room : length w.jobs.items ≤ vec_capacity w.answers
  pub few : length w.jobs.items < 2 ^ 32

-- a port that has made no call, and the calls that it is to make
pub record IsNewWork (m : MemoryView) (port : ℕ) (calls : List Call) (p : PortView) : Type 0 where
  pub own : IsOf m p
  pub number : p.number ≡ port
  pub fresh : p.notes ≡ []
  pub within : AllByRecursion (IsCallWithin m.about.sizes.m) calls
  pub few : length calls < 2 ^ 32

-- the worker of the port with this number, for these calls
pub record IsHired (m : MemoryView) (port : ℕ) (calls : List Call) (w : Worker) : Type 0 where
  pub own : IsOf m w.port
  pub number : w.port.number ≡ port
  pub ready : IsWorkerReady m.about.sizes.m w
  pub jobs : calls_of w.jobs.items ≡ calls

-- a thread was started for the calls of the port with this number
pub record IsWorkStarted (m : MemoryView) (port : ℕ) (called : List Call) (h : PromisedHandle Worked Works) : Type 0 where
  pub memory : h.promise.memory.value ≡ m
  pub number : h.promise.port ≡ port
  pub calls : h.promise.calls.value.now ≡ called

-- the port with this number has made these calls
pub record IsWorkDone (m : MemoryView) (port : ℕ) (calls : List Call) (w : Worked) : Type 0 where
  pub own : IsOf m w.port
  pub number : w.port.number ≡ port
  pub made : AreMade m.about.sizes.m calls w.answers.items w.port

-- the ports, and the answers of their calls, of threads that have ended
pub record HaveCome (m : MemoryView) (calls : List (List Call)) (r : Results) : Type 0 where
  pub done : List Worked
  pub each : AreEach (IsWorkDone m) 0 calls done
  pub ports : map (λ w. w.port) done ≡ r.ports.items
  pub answers : map (λ w. w.answers) done ≡ r.answers.items

-- the memory was opened for these calls: with these ports, one for each list of calls, and with a value for each component
pub record IsOpenedFor (m : MemoryView) (calls : List (List Call)) (fresh : List PortView) : Type 0 where
  pub some_port : 1 ≤ length calls
  pub values : length m.about.opening.values ≡ m.about.sizes.m
  pub count : m.about.ports ≡ length calls
  pub ports : fresh ≡ new_ports m.table (newcomers m.about 0 (length calls))

-- the worker's port has that number
abbrev pub HasNumber : ℕ → List Call → Worked → Type 0
HasNumber port calls w = w.port.number ≡ port

-- the memory was closed lawfully with the ports that have these answers, one port for each list of calls, by their numbers
pub record WasClosedLawfully (m : MemoryView) (calls : List (List Call)) (given : List (Vec Answer Global)) (c : Closed) : Type 0 where
  pub done : List Worked
  pub answers : map (λ w. w.answers) done ≡ given
  pub numbers : AreEach HasNumber 0 calls done
  pub front : List PortView
  pub last : PortView
  pub ports : map (λ w. w.port) done ≡ front ++ last ∷ []
  pub lawful : ClosesLawfully m (last ∷ front) c
