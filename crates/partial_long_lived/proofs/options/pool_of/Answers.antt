use Rattle.std.proofs.Common.{rules, tests}
use Rattle.partial_long_lived.proofs.options.pool_of.Goals as goal

pub returns-in-None : goal.returns-in-None
returns-in-None c = search (tests, rules)
