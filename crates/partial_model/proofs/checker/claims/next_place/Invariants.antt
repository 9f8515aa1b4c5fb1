use Rattle.partial_model.proofs.Common.{◌≡◌, places_from}
use Rattle.partial_model.proofs.checker.claims.next_place.Given as goal

-- no entry by the port was passed
abbrev pub invariant-loop-place : goal.invariant-loop-place
invariant-loop-place l = places_from l.history l.port l.from ≡ places_from l.history l.port l.place
