use Rattle.std.proofs.Common.{rules, tests}
use Rattle.partial_machine.proofs.machine.Core.mark_slots.Goals as goal

pub returns : goal.returns
returns c = search (tests, rules)
