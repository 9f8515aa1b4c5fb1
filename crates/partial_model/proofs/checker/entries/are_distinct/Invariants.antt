use Rattle.partial_model.proofs.StampLaws.{AreDistinctUpTo}
use Rattle.partial_model.proofs.checker.entries.are_distinct.Given as goal

-- the stamps so far are distinct, and none is above the greatest
abbrev pub invariant-loop-place : goal.invariant-loop-place
invariant-loop-place l = AreDistinctUpTo l.history l.place l.greatest
