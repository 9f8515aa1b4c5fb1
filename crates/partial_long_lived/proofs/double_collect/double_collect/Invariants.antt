use Rattle.partial_long_lived.proofs.Common.{length, port_at}
use Rattle.partial_long_lived.proofs.double_collect.double_collect.Given as goal

-- what the port notes: the components, after all that it has seen as the second collect begins
abbrev pub ghosts-confirm : goal.ghosts-confirm
ghosts-confirm a = record { which = a.which.now; entries = length (port_at a.stand.now).port.part.seen }
