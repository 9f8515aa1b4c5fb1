use Rattle.std.proofs.Common.{arith}
use Rattle.std.proofs.lemmas.Grind.{common_steps}
use Rattle.partial_intervals.proofs.intervals.Intervals.get.Goals as goal

pub returns-clause-interval : goal.returns-clause-interval
returns-clause-interval c = grind (arith, common_steps) steps 2000000
