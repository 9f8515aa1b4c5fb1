-- Workers for the ports of a memory, and what their threads return.
use Rattle.partial_workers.proofs.{Common.{ℕ, suc, ◌≡◌, ◌+◌, ◌<◌, ◌≤◌, ◌++◌, List, [], ◌∷◌, length, take, slice_index_or, sym, ap, subst, ◌∙◌, arith, AllByRecursion, vec_capacity, take-suc, get_or_default, length-map, map-append, Call, all_append, all_back, all_front, MemoryView, PortView, AreEach, IsCallWithin, ScanHasRoom, HaveCome, HaveRooms, IsWorkDone, IsHired, IsNewWork, IsWorkStarted, calls_of, Job, Worked, Worker, Results, Works}, Pairs.{each_at, each_length, each_push}}
use Rattle.std.specs.declared.thread.PromisedHandle.{PromisedHandle}

-- one call more of a port
pub calls_more : (before after : List Job) (job : Job) (calls : List Call) (n : ℕ) → after ≡ before ++ job ∷ [] → calls_of before ≡ take n calls → n < length calls →
    job.call.now ≡ slice_index_or calls n job.call.now → calls_of after ≡ take (n + 1) calls
calls_more before after job calls n is had within at =
    let next : n + 1 ≡ suc n = omega arith in
    let taken : take (n + 1) calls ≡ take n calls ++ job.call.now ∷ [] = ap (λ i. take i calls) next ∙ take-suc calls n job.call.now within ∙ ap (λ (c : Call). take n calls ++ c ∷ []) (sym at) in
    ap calls_of is ∙ map-append (λ (j : Job). j.call.now) before (job ∷ []) ∙ ap (λ (l : List Call). l ++ job.call.now ∷ []) had ∙ sym taken

pub rooms_more : (before after : List Job) (job : Job) → after ≡ before ++ job ∷ [] → HaveRooms before → ((m : ℕ) → IsCallWithin m job.call.now → ScanHasRoom m job.call.now job.room.items) →
    HaveRooms after
rooms_more before after job is had new m lawful =
    let calls : calls_of after ≡ calls_of before ++ job.call.now ∷ [] = ap calls_of is ∙ map-append (λ (j : Job). j.call.now) before (job ∷ []) in
    let all : AllByRecursion (IsCallWithin m) (calls_of before ++ job.call.now ∷ []) = subst (AllByRecursion (IsCallWithin m)) calls lawful in
    let one = all_back (IsCallWithin m) (calls_of before) (job.call.now ∷ []) all in
    let P : Job → Type 0 = λ j. ScanHasRoom m j.call.now j.room.items in
    subst (AllByRecursion P) (sym is) (all_append P before (job ∷ []) (had m (all_front (IsCallWithin m) (calls_of before) (job.call.now ∷ []) all)) (new m one.0, tt))

-- a worker for a new port
pub hired : (m : MemoryView) (n : ℕ) (calls : List Call) (w : Worker) → IsNewWork m n calls w.port → calls_of w.jobs.items ≡ calls → HaveRooms w.jobs.items → w.answers.items ≡ [] →
    length calls ≤ vec_capacity w.answers → length w.jobs.items ≡ length calls → IsHired m n calls w
hired m n calls w new jobs rooms empty room many =
    record {
      own = new.own;
      number = new.number;
      ready = record {
        fresh = new.fresh;
        rooms = rooms m.about.sizes.m (subst (AllByRecursion (IsCallWithin m.about.sizes.m)) (sym jobs) new.within);
        empty = empty;
        room = omega (arith, room, many);
        few = omega (arith, many, new.few);
      };
      jobs = jobs;
    }

-- one worker more
pub hire_more : (m : MemoryView) (n next : ℕ) (plan : List (List Call)) (before after : List Worker) (calls : List Call) (w : Worker) → AreEach (IsHired m) 0 (take n plan) before → n < length plan →
    calls ≡ slice_index_or plan n calls → IsHired m n calls w → next ≡ n + 1 → after ≡ before ++ w ∷ [] → AreEach (IsHired m) 0 (take next plan) after
hire_more m n next plan before after calls w had within at new is now =
    let zero_more : n ≡ 0 + n = omega arith in
    subst (AreEach (IsHired m) 0 (take next plan)) (sym now) (each_push (IsHired m) 0 n next plan before calls w had within at (subst (λ i. IsHired m i calls w) zero_more new) is)

-- one thread more has ended
pub come_more : (m : MemoryView) (n next : ℕ) (plan : List (List Call)) (before after : Results) (calls : List Call) (w : Worked) → HaveCome m (take n plan) before → n < length plan →
    calls ≡ slice_index_or plan n calls → IsWorkDone m n calls w → next ≡ n + 1 → after.ports.items ≡ before.ports.items ++ w.port ∷ [] → after.answers.items ≡ before.answers.items ++ w.answers ∷ [] →
    HaveCome m (take next plan) after
come_more m n next plan before after calls w had within at new is ports answers =
    let zero_more : n ≡ 0 + n = omega arith in
    record {
      done = had.done ++ w ∷ [];
      each = each_push (IsWorkDone m) 0 n next plan had.done calls w had.each within at (subst (λ i. IsWorkDone m i calls w) zero_more new) is;
      ports = map-append (λ (v : Worked). v.port) had.done (w ∷ []) ∙ ap (λ (l : List PortView). l ++ w.port ∷ []) had.ports ∙ sym ports;
      answers = map-append (λ (v : Worked). v.answers) had.done (w ∷ []) ∙ ap (λ l. l ++ w.answers ∷ []) had.answers ∙ sym answers;
    }

pub as_many : (jobs : List Job) (calls : List Call) → calls_of jobs ≡ calls → length jobs ≡ length calls
as_many jobs calls is = sym (length-map jobs (λ (j : Job). j.call.now)) ∙ ap length is

-- the same by other names
pub done_alike : (m v : MemoryView) (n k : ℕ) (calls given : List Call) (w : Worked) → IsWorkDone m n calls w → v ≡ m → k ≡ n → given ≡ calls → IsWorkDone v k given w
done_alike m v n k calls given w done memory number same = subst (λ x. IsWorkDone x k given w) (sym memory)
    (subst (λ i. IsWorkDone m i given w) (sym number) (subst (λ l. IsWorkDone m n l w) (sym same) done))

-- a thread that was started for a port's calls has made them once it has kept its promise
pub done_as_started : (m : MemoryView) (n : ℕ) (plan : List (List Call)) (all : List (PromisedHandle Worked Works)) (h : PromisedHandle Worked Works) (w : Worked) →
    AreEach (IsWorkStarted m) 0 plan all → n < length all → h ≡ slice_index_or all n h → IsWorkDone h.promise.memory.value h.promise.port h.promise.calls.value.now w → (calls : List Call) ×
    (calls ≡ slice_index_or plan n calls) × IsWorkDone m n calls w
done_as_started m n plan all h w started within is kept =
    let calls : List Call = slice_index_or plan n [] in
    let at : calls ≡ slice_index_or plan n calls = get_or_default plan n [] calls (omega (arith, within, each_length (IsWorkStarted m) 0 plan all started)) in
    let s = each_at (IsWorkStarted m) 0 n plan all calls h started within at is in
    let zero_more : 0 + n ≡ n = omega arith in
    (calls, at, done_alike h.promise.memory.value m h.promise.port n h.promise.calls.value.now calls w kept (sym s.memory) (sym (s.number ∙ zero_more)) (sym s.calls))
