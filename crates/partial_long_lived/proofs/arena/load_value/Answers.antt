use Rattle.std.proofs.Common.{arith}
use Rattle.std.proofs.lemmas.Grind.{elements}
use Rattle.partial_long_lived.proofs.arena.load_value.Goals as goal

pub returns-clause-value : goal.returns-clause-value
returns-clause-value c = grind (arith, elements) steps 2000000
