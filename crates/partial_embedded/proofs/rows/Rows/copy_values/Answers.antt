use Rattle.std.proofs.Common.{rules, tests}
use Rattle.partial_embedded.proofs.rows.Rows.copy_values.Goals as goal

pub loop-k-preserved : goal.loop-k-preserved
loop-k-preserved c = search (tests, rules)
