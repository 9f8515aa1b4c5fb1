use Rattle.partial_long_lived.proofs.ArenaLines.{arenas_begin_lines}
use Rattle.partial_long_lived.proofs.law.arenas_begin_lines.Goals as goal

pub returns : goal.returns
returns c = arenas_begin_lines
