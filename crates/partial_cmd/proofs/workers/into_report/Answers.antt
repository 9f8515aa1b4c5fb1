use Rattle.std.proofs.Common.{rules, tests}
use Rattle.partial_cmd.proofs.workers.into_report.Goals as goal

pub returns : goal.returns
returns c = search (tests, rules)
