use Rattle.partial_model.proofs.Common.{◌≡◌, length, AreListsOf}
use Rattle.partial_model.proofs.checker.index.places_of.Given as goal

-- the lists hold the places of the entries so far
abbrev pub invariant-loop-place : goal.invariant-loop-place
invariant-loop-place l = record { len : length l.lists.items ≡ l.components; listed : AreListsOf l.history l.place l.lists.items }
