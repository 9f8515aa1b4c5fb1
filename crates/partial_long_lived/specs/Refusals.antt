-- The numbers of the refusals of calls.
use Rattle.std.specs.Prelude.{ℕ}
use Rattle.partial_long_lived.specs.declared.error.Refused.{Refused}
use Rattle.partial_long_lived.specs.declared.error.Refused.TheVariants.{Component, Overtaken, EpochsSpent}

-- the number of a refusal
abbrev pub refusal_code : Refused → ℕ
refusal_code Component = 7
refusal_code Overtaken = 25
refusal_code EpochsSpent = 27
