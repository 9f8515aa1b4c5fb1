use Rattle.std.proofs.Common.{rules, tests}
use Rattle.partial_picture.proofs.picture.Mark.of.Goals as goal

pub returns-in-Exchange : goal.returns-in-Exchange
returns-in-Exchange c = search (tests, rules)
