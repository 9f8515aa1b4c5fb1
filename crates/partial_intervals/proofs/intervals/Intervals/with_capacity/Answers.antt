use Rattle.std.proofs.Common.{rules, tests}
use Rattle.partial_intervals.proofs.intervals.Intervals.with_capacity.Goals as goal

pub returns-clause-capacity : goal.returns-clause-capacity
returns-clause-capacity c = search (tests, rules)
