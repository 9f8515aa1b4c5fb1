use Rattle.std.proofs.Common.{rules, tests}
use Rattle.partial_machine.proofs.machine.set_asked.Goals as goal

pub returns-clause-items : goal.returns-clause-items
returns-clause-items c = search (tests, rules)
