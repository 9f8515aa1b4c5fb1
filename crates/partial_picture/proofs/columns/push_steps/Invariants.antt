use Rattle.partial_picture.proofs.Common.{◌<◌}
use Rattle.std.specs.String.{string_len}
use Rattle.partial_picture.proofs.columns.push_steps.Given as goal

-- the line with the names of the columns is written
abbrev pub invariant-loop-index : goal.invariant-loop-index
invariant-loop-index l = 0 < string_len l.text
