use Rattle.std.proofs.Common.{arith}
use Rattle.std.proofs.lemmas.Grind.{common_steps}
use Rattle.partial_long_lived.proofs.unchanged.stamp_now.Goals as goal

pub returns-clause-stamp : goal.returns-clause-stamp
returns-clause-stamp c = grind (arith, common_steps) steps 2000000
