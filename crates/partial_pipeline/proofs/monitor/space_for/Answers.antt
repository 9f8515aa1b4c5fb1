use Rattle.std.proofs.Common.{rules, tests}
use Rattle.partial_pipeline.proofs.monitor.space_for.Goals as goal

pub returns-clause-each : goal.returns-clause-each
returns-clause-each c = search (tests, rules)
