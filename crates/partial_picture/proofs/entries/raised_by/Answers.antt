use Rattle.std.proofs.Common.{rules, tests}
use Rattle.partial_picture.proofs.entries.raised_by.Goals as goal

pub returns : goal.returns
returns c = search (tests, rules)
