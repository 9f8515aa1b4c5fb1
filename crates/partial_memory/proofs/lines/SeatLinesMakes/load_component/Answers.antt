use Rattle.std.proofs.Common.{rules, tests}
use Rattle.partial_memory.proofs.lines.SeatLinesMakes.load_component.Goals as goal

pub returns-clause-possible : goal.returns-clause-possible
returns-clause-possible c = search (tests, rules)
