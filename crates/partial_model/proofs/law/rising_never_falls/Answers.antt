use Rattle.partial_model.proofs.Values.{rising_never_falls}
use Rattle.partial_model.proofs.law.rising_never_falls.Goals as goal

pub returns : goal.returns
returns c = rising_never_falls
