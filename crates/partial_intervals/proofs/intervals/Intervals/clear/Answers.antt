use Rattle.std.proofs.Common.{rules, tests}
use Rattle.partial_intervals.proofs.intervals.Intervals.clear.Goals as goal

pub returns : goal.returns
returns c = search (tests, rules)
