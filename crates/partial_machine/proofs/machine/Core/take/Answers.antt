use Rattle.std.proofs.Common.{rules, tests}
use Rattle.partial_machine.proofs.machine.Core.take.Goals as goal

pub returns-in-Finished-clause-state : goal.returns-in-Finished-clause-state
returns-in-Finished-clause-state c = search (tests, rules)
