use Rattle.partial_workers.proofs.Common.{◌≡◌, ◌≤◌, length, map, take, vec_capacity}
use Rattle.partial_workers.proofs.workers.calls_by_port.Given as goal

-- the calls so far
abbrev pub invariant-loop-port : goal.invariant-loop-port
invariant-loop-port l = record {
  calls : map (λ c. c.now) l.calls.items ≡ take l.port-index l.ports;
  count : length l.calls.items ≡ l.port-index;
  room : length l.ports ≤ vec_capacity l.calls;
}
