use Rattle.partial_long_lived.proofs.Common.{◌≡◌, drop, nat_lt, list_all}
use Rattle.partial_long_lived.proofs.calls.are_below.Given as goal

-- all are below where those that are left are
abbrev pub invariant-loop-index : goal.invariant-loop-index
invariant-loop-index l = list_all (λ i. nat_lt i l.components) (drop l.index-index l.indices) ≡ list_all (λ i. nat_lt i l.components) l.indices
