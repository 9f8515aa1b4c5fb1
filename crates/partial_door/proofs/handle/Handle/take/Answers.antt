use Rattle.std.proofs.Common.{rules, tests}
use Rattle.partial_door.proofs.handle.Handle.take.Goals as goal

pub returns-in-Some-clause-taken : goal.returns-in-Some-clause-taken
returns-in-Some-clause-taken c = search (tests, rules)
