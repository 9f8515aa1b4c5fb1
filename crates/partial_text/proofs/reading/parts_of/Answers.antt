use Rattle.std.proofs.Common.{rules, tests}
use Rattle.partial_text.specs.Judging.{judged_plan, lines_judged}
use Rattle.partial_text.proofs.reading.parts_of.Goals as goal

pub returns-in_err-line : goal.returns-in_err-line
unfolding judged_plan lines_judged
returns-in_err-line c = search (tests, rules)
