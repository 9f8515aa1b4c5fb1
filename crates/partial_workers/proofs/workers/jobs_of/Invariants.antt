use Rattle.partial_workers.proofs.Common.{◌≡◌, ◌≤◌, length, take, vec_capacity, HaveRooms, calls_of}
use Rattle.partial_workers.proofs.workers.jobs_of.Given as goal

-- the calls so far
abbrev pub invariant-loop-call : goal.invariant-loop-call
invariant-loop-call l = record {
  calls : calls_of l.jobs.items ≡ take l.call-index l.calls;
  rooms : HaveRooms l.jobs.items;
  count : length l.jobs.items ≡ l.call-index;
  room : length l.calls ≤ vec_capacity l.jobs;
}
