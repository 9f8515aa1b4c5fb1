use Rattle.std.proofs.Common.{arith}
use Rattle.std.proofs.lemmas.Grind.{common_steps}
use Rattle.partial_intervals.proofs.intervals.Intervals.extend_last.Goals as goal

pub returns : goal.returns
returns c = grind (arith, common_steps) steps 2000000
