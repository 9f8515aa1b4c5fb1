use Rattle.std.proofs.Common.{rules, tests}
use Rattle.partial_replay.proofs.port.unfinished.Goals as goal

pub returns : goal.returns
returns c = search (tests, rules)
