use Rattle.std.proofs.Common.{rules, tests}
use Rattle.partial_words.proofs.list.interval.Goals as goal

pub returns : goal.returns
returns c = search (tests, rules)
