use Rattle.partial_long_lived.proofs.Common.{◌≡◌, length, nat_lt, list_all}
use Rattle.partial_long_lived.proofs.calls.all_below.Given as goal

-- all are below where those that are left are
abbrev pub invariant-loop-four : goal.invariant-loop-four
invariant-loop-four l = list_all (λ i. nat_lt i l.components) l.rest ≡ list_all (λ i. nat_lt i l.components) l.indices

abbrev pub decreases-loop-four : goal.decreases-loop-four
decreases-loop-four l = length l.rest
