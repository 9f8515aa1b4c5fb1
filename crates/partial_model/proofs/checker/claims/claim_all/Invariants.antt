use Rattle.partial_model.proofs.Common.{◌≡◌, drop, places_by, places_from, claim_all}
use Rattle.partial_model.proofs.checker.claims.claim_all.Given as goal

-- the calls from here on decide
abbrev pub invariant-loop-call : goal.invariant-loop-call
invariant-loop-call l = claim_all l.history l.port (places_from l.history l.port l.from) (drop l.call-index l.calls) ≡ claim_all l.history 0 (places_by 0 0 l.history) l.calls
