use Rattle.std.proofs.Common.{rules, tests}
use Rattle.partial_long_lived.proofs.update_if.compare.Goals as goal

pub returns-else-stamp-asked-clause-found : goal.returns-else-stamp-asked-clause-found
returns-else-stamp-asked-clause-found c = search (tests, rules)

pub returns-then-stamp-asked-clause-found : goal.returns-then-stamp-asked-clause-found
returns-then-stamp-asked-clause-found c = search (tests, rules)
