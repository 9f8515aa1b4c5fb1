use Rattle.partial_replay.proofs.ScanPlaces.{IsWalked}
use Rattle.partial_replay.proofs.wanted.least_prefix.Given as goal

-- the entries from the place on have been taken back
abbrev pub invariant-loop-place : goal.invariant-loop-place
invariant-loop-place l = IsWalked l.wanted l.fn.differing l.differing l.words l.history l.began l.place l.least
