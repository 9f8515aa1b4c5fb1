use Rattle.std.proofs.Common.{rules, tests}
use Rattle.partial_active.proofs.found.Found.new.Goals as goal

pub returns-clause-sizes : goal.returns-clause-sizes
returns-clause-sizes c = search (tests, rules)
