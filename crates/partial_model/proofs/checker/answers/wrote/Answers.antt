use Rattle.std.proofs.Common.{arith}
use Rattle.std.proofs.lemmas.Grind.{elements}
use Rattle.partial_model.proofs.checker.answers.wrote.Goals as goal

pub returns-then-entry-value : goal.returns-then-entry-value
returns-then-entry-value c = grind (arith, elements) steps 2000000
