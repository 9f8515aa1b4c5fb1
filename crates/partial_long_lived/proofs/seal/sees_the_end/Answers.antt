use Rattle.partial_long_lived.proofs.{Common.{arith}, Staying.{remains_same}}
use Rattle.partial_long_lived.proofs.seal.sees_the_end.Goals as goal

pub loop-init : goal.loop-init
loop-init c = record {
  held = c.requires.held;
  remains = remains_same _ _ _ c.requires.held;
  free = c.requires.may;
  steps = omega arith;
}
