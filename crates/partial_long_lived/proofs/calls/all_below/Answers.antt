use Rattle.std.proofs.Common.{tests}
use Rattle.partial_long_lived.proofs.Common.{rules}
use Rattle.partial_long_lived.proofs.calls.all_below.Goals as goal

pub returns-in-Ok : goal.returns-in-Ok
returns-in-Ok c = search (tests, rules)
