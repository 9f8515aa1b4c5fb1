use Rattle.partial_workers.proofs.Common.{take, AllByRecursion, IsCallWithin}
use Rattle.partial_workers.proofs.makable.are_within.Given as goal

-- the calls so far
abbrev pub invariant-loop-call : goal.invariant-loop-call
invariant-loop-call l = record {
  within : AllByRecursion (IsCallWithin l.m) (take l.call-index l.calls);
}
