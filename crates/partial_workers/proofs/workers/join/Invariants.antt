use Rattle.partial_workers.proofs.Common.{◌≡◌, ◌≤◌, List, length, take, vec_capacity, Call, MemoryView, AreEach, HaveCome, IsWorkStarted}
use Rattle.partial_workers.proofs.workers.join.Given as goal

-- the threads that have ended so far
abbrev pub invariant-loop-handle : goal.invariant-loop-handle
invariant-loop-handle g l = record {
  come : (m : MemoryView) (plan : List (List Call)) → AreEach (IsWorkStarted m) 0 plan l.fn.started.items → HaveCome m (take (length l.yielded) plan) l.results;
  ports : length l.results.ports.items ≡ length l.yielded;
  answers : length l.results.answers.items ≡ length l.yielded;
  ports_room : length l.fn.started.items ≤ vec_capacity l.results.ports;
  answers_room : length l.fn.started.items ≤ vec_capacity l.results.answers;
}
