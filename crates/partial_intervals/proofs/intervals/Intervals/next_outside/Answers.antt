use Rattle.std.proofs.Common.{arith}
use Rattle.std.proofs.lemmas.Grind.{elements}
use Rattle.partial_intervals.proofs.intervals.Intervals.next_outside.Goals as goal

pub returns-then-next-end : goal.returns-then-next-end
returns-then-next-end c = grind (arith, elements) steps 2000000
