use Rattle.partial_workers.proofs.Common.{◌≡◌, ◌≤◌, length, take, vec_capacity, IsOf, AreMade, calls_of}
use Rattle.partial_workers.proofs.worker.Worker.work.Given as goal

-- the calls so far
abbrev pub invariant-loop-job : goal.invariant-loop-job
invariant-loop-job g l = record {
  own : IsOf l.memory l.port;
  number : l.port.number ≡ l.fn.self.port.number;
  made : AreMade l.memory.about.sizes.m (take (length l.answers.items) (calls_of l.fn.self.jobs.items)) l.answers.items l.port;
  count : length l.answers.items ≡ length l.yielded;
  room : length l.fn.self.jobs.items ≤ vec_capacity l.answers;
}
