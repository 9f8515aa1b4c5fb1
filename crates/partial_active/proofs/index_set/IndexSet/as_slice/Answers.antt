use Rattle.std.proofs.Common.{rules, tests}
use Rattle.partial_active.proofs.index_set.IndexSet.as_slice.Goals as goal

pub returns : goal.returns
returns c = search (tests, rules)
