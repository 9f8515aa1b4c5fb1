use Rattle.partial_replay.proofs.Common.{◌≡◌, length, take, calls_in, calls_in_order}
use Rattle.partial_replay.proofs.run.calls_of.Given as goal

-- the calls of the ports so far
abbrev pub invariant-loop-port : goal.invariant-loop-port
invariant-loop-port l = calls_in_order l.calls.items ≡ calls_in l.plans (take (length l.yielded) l.fn.ports.items)
