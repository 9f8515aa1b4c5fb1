use Rattle.std.proofs.Common.{rules, tests}
use Rattle.partial_embedded.proofs.rows.Rows.new.Goals as goal

pub returns-clause-sizes : goal.returns-clause-sizes
returns-clause-sizes c = search (tests, rules)
