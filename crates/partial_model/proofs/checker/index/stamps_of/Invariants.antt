use Rattle.partial_model.proofs.Common.{nat_eq, AreStampsOf}
use Rattle.std.specs.HashMap as hash
use Rattle.partial_model.proofs.checker.index.stamps_of.Given as goal

-- the map holds the stamps of the entries so far
abbrev pub invariant-loop-place : goal.invariant-loop-place
invariant-loop-place l = AreStampsOf l.history l.place (hash.get nat_eq l.stamps)
