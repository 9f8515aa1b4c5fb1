use Rattle.partial_text.proofs.Common.{◌≡◌, calls_in_order}
use Rattle.partial_text.proofs.replayed.in_one_list.Given as goal

-- the calls of the ports so far
abbrev pub invariant-loop-calls : goal.invariant-loop-calls
invariant-loop-calls l = l.all.items ≡ calls_in_order l.yielded
