use Rattle.std.proofs.Common.{rules, tests}
use Rattle.partial_long_lived.proofs.find.find.Goals as goal

pub returns-clause-loaded : goal.returns-clause-loaded
returns-clause-loaded c = search (tests, rules)
