use Rattle.partial_model.proofs.Common.{◌≡◌, take, drop, value_of, hold}
use Rattle.partial_model.proofs.checker.answers.hold.Given as goal

-- the positions from here on decide
abbrev pub invariant-loop-position : goal.invariant-loop-position
invariant-loop-position l = hold (value_of l.opening (take l.prefix l.history)) (drop l.position l.components) (drop l.position l.values) ≡
    hold (value_of l.opening (take l.prefix l.history)) l.components l.values
