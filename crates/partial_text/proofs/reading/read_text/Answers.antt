use Rattle.std.proofs.Common.{rules, tests}
use Rattle.partial_text.proofs.reading.read_text.Goals as goal

pub returns-in-Some-eq0-clause-taken : goal.returns-in-Some-eq0-clause-taken
returns-in-Some-eq0-clause-taken c = search (tests, rules)
