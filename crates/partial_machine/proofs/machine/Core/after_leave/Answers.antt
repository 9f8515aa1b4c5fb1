use Rattle.std.proofs.Common.{rules, tests}
use Rattle.partial_machine.proofs.machine.Core.after_leave.Goals as goal

pub returns : goal.returns
returns c = search (tests, rules)
