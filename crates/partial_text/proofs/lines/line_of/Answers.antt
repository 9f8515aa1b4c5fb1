use Rattle.std.proofs.Common.{rules, tests}
use Rattle.partial_text.specs.Judging.{line_at}
use Rattle.partial_text.proofs.lines.line_of.Goals as goal

pub returns-in-empty-clause-value : goal.returns-in-empty-clause-value
unfolding line_at
returns-in-empty-clause-value c = search (tests, rules)
