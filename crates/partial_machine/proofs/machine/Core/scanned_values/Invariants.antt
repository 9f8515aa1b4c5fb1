use Rattle.partial_machine.proofs.Common.{◌≡◌, take, scanned_values}
use Rattle.partial_machine.proofs.machine.Core.scanned_values.Given as goal

-- the first k values are read
abbrev pub invariant-loop-k : goal.invariant-loop-k
invariant-loop-k l = l.values.items ≡ take l.k (scanned_values l.self)
