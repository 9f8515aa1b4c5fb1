use Rattle.std.proofs.Common.{rules, tests}
use Rattle.partial_model.proofs.sequence.Sequence.into_vec.Goals as goal

pub returns : goal.returns
returns c = search (tests, rules)
