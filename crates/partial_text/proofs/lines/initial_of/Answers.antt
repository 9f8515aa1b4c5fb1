use Rattle.std.proofs.Common.{rules, tests}
use Rattle.partial_text.specs.Judging.{initial_at}
use Rattle.partial_text.proofs.lines.initial_of.Goals as goal

pub returns-then-count-m : goal.returns-then-count-m
unfolding initial_at
returns-then-count-m c = search (tests, rules)
