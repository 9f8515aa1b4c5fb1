use Rattle.std.proofs.Common.{arith}
use Rattle.std.proofs.lemmas.Grind.{elements}
use Rattle.partial_model.proofs.checker.answers.is_entry_for.Goals as goal

pub returns-then-entry-component : goal.returns-then-entry-component
returns-then-entry-component c = grind (arith, elements) steps 2000000
