use Rattle.partial_memory.proofs.Common.{ReadBegun, at_stage}
use Rattle.partial_memory.proofs.read.read.Given as goal

-- the machine that begins the read
abbrev pub ghosts-begin_read : goal.ghosts-begin_read
ghosts-begin_read a = record { core = at_stage a.core.now (ReadBegun a.component) }
