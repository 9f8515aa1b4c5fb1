use Rattle.std.proofs.Common.{rules, tests}
use Rattle.partial_model.proofs.sequence.Sequence.as_slice.Goals as goal

pub returns : goal.returns
returns c = search (tests, rules)
