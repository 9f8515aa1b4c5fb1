use Rattle.std.proofs.Common.{rules, tests}
use Rattle.partial_long_lived.proofs.enter.settle.Goals as goal

pub returns-then-not-look-clause-settled : goal.returns-then-not-look-clause-settled
returns-then-not-look-clause-settled g c = search (tests, rules)
