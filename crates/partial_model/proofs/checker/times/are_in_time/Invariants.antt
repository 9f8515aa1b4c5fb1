use Rattle.partial_model.proofs.Common.{◌≡◌, None, drop, option_map, are_in_time}
use Rattle.partial_model.proofs.checker.times.are_in_time.Given as goal

-- the calls from here on decide
abbrev pub invariant-loop-call : goal.invariant-loop-call
invariant-loop-call l = are_in_time l.entries (option_map (λ b. b.now) l.before) (drop l.call-index l.calls) ≡ are_in_time l.entries None l.calls
