use Rattle.std.proofs.Common.{rules, tests}
use Rattle.partial_model.proofs.checker.answers.saw_together.Goals as goal

pub returns-in-None : goal.returns-in-None
returns-in-None c = search (tests, rules)
