use Rattle.std.proofs.Common.{rules, tests}
use Rattle.partial_words.proofs.record.view_of.Goals as goal

pub returns : goal.returns
returns c = search (tests, rules)
