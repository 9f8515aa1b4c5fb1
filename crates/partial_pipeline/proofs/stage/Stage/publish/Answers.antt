use Rattle.std.proofs.Common.{rules, tests}
use Rattle.partial_pipeline.proofs.stage.Stage.publish.Goals as goal

pub returns-then-set-clause-end : goal.returns-then-set-clause-end
returns-then-set-clause-end c = search (tests, rules)
