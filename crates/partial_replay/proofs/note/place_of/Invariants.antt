use Rattle.partial_replay.proofs.Common.{HasNoneFrom}
use Rattle.partial_replay.proofs.note.place_of.Given as goal

-- no entry from the place on has the stamp
abbrev pub invariant-loop-place : goal.invariant-loop-place
invariant-loop-place l = HasNoneFrom l.history l.place l.stamp
