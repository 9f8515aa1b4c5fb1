use Rattle.std.proofs.Common.{rules, tests}
use Rattle.partial_model.proofs.checker.index.Index.new.Goals as goal

pub returns-in_ok-places-in-Some : goal.returns-in_ok-places-in-Some
returns-in_ok-places-in-Some c = search (tests, rules)
