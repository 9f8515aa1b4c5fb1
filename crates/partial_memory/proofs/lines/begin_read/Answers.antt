use Rattle.std.proofs.Common.{rules, tests}
use Rattle.partial_memory.proofs.lines.begin_read.Goals as goal

pub returns-clause-machine : goal.returns-clause-machine
returns-clause-machine c = search (tests, rules)
