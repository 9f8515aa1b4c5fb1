use Rattle.std.proofs.Common.{rules, tests}
use Rattle.partial_machine.proofs.machine.Core.begin_scan.Goals as goal

pub returns-clause-ok : goal.returns-clause-ok
returns-clause-ok c = search (tests, rules)
