use Rattle.std.proofs.Common.{rules, tests}
use Rattle.partial_workers.proofs.makable.is_within.Goals as goal

pub returns-in-Scan-clause-yes : goal.returns-in-Scan-clause-yes
returns-in-Scan-clause-yes c = search (tests, rules)
