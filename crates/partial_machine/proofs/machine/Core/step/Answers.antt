use Rattle.std.proofs.Common.{rules, tests}
use Rattle.partial_machine.proofs.machine.Core.step.Goals as goal

pub returns-in-ClaimingRecord : goal.returns-in-ClaimingRecord
returns-in-ClaimingRecord c = search (tests, rules)

pub returns-in-Exchanging : goal.returns-in-Exchanging
returns-in-Exchanging c = search (tests, rules)
