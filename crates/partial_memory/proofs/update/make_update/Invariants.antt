use Rattle.partial_memory.proofs.Common.{UpdateBegun, at_stage}
use Rattle.partial_memory.proofs.update.make_update.Given as goal

-- the machine that begins the update
abbrev pub ghosts-begin_update : goal.ghosts-begin_update
ghosts-begin_update a = record { core = at_stage a.core.now (UpdateBegun a.change) }
