use Rattle.std.proofs.Common.{rules, tests}
use Rattle.partial_replay.proofs.port.Port.ended.Goals as goal

pub returns-clause-called : goal.returns-clause-called
returns-clause-called c = search (tests, rules)
