use Rattle.std.proofs.Common.{rules, tests}
use Rattle.partial_long_lived.proofs.update_if.public_outcome.Goals as goal

pub returns-in-Overtaken-clause-public : goal.returns-in-Overtaken-clause-public
returns-in-Overtaken-clause-public c = search (tests, rules)
