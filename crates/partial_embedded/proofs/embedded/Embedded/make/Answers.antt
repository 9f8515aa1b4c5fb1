use Rattle.std.proofs.Common.{arith, rules, tests}
use Rattle.std.proofs.lemmas.Grind.{common_steps}
use Rattle.partial_embedded.proofs.embedded.Embedded.make.Goals as goal

pub returns-clause-done : goal.returns-clause-done
returns-clause-done c = search (tests, rules)

pub returns-clause-scan : goal.returns-clause-scan
returns-clause-scan c = grind (arith, common_steps) steps 2000000
