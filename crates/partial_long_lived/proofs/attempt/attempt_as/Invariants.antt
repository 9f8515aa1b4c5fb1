use Rattle.partial_long_lived.proofs.Common.{UpdateBegun, at_stage}
use Rattle.partial_long_lived.proofs.attempt.attempt_as.Given as goal

-- the machine that begins the update
abbrev pub ghosts-begin : goal.ghosts-begin
ghosts-begin g a = record { core = at_stage a.core.now (UpdateBegun a.change) }
