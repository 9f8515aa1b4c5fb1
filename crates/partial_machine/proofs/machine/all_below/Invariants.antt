use Rattle.partial_machine.proofs.Common.{◌≡◌, ◌&&◌, drop, nat_lt, list_all}
use Rattle.partial_machine.proofs.machine.all_below.Given as goal

-- what was looked at with what is left is all
abbrev pub invariant-loop-index : goal.invariant-loop-index
invariant-loop-index l = (l.all && list_all (λ i. nat_lt i l.m) (drop l.index-index l.indices)) ≡ list_all (λ i. nat_lt i l.m) l.indices
