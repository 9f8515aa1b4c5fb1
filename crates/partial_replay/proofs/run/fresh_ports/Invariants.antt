use Rattle.partial_replay.proofs.Common.{◌≡◌, length, FreshFrom}
use Rattle.partial_replay.proofs.run.fresh_ports.Given as goal

-- so many ports are made
abbrev pub invariant-loop-number : goal.invariant-loop-number
invariant-loop-number l = record {
  count : length l.ports.items ≡ l.number;
  fresh : FreshFrom l.sizes 0 l.ports.items;
}
