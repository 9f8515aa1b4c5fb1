use Rattle.std.proofs.Common.{rules, tests}
use Rattle.partial_door.proofs.handle.Handle.put.Goals as goal

pub returns : goal.returns
returns c = search (tests, rules)
