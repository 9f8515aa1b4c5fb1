use Rattle.std.proofs.Common.{rules, tests}
use Rattle.partial_replay.proofs.wanted.take_back.Goals as goal

pub returns-in-Some : goal.returns-in-Some
returns-in-Some c = search (tests, rules)
