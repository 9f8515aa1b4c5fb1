use Rattle.std.proofs.Common.{rules, tests}
use Rattle.partial_machine.proofs.machine.Core.after_announcement_claim.Goals as goal

pub returns-then-at-size : goal.returns-then-at-size
returns-then-at-size c = search (tests, rules)
