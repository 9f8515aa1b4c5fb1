use Rattle.partial_long_lived.proofs.Common.{Expects}
use Rattle.partial_long_lived.proofs.update_if.compare.Given as goal

-- the port compares the component's stamp with the expected one
abbrev pub ghosts-see_asked : goal.ghosts-see_asked
ghosts-see_asked a = record { wish = Expects a.asked.expected a.asked.value }
