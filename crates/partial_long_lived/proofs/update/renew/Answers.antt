use Rattle.std.proofs.Common.{rules, tests}
use Rattle.partial_long_lived.proofs.update.renew.Goals as goal

pub returns-clause-spare : goal.returns-clause-spare
returns-clause-spare g c = search (tests, rules)
