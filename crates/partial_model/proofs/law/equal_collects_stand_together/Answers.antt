use Rattle.partial_model.proofs.StampsStay.{equal_collects_stand_together}
use Rattle.partial_model.proofs.law.equal_collects_stand_together.Goals as goal

pub returns : goal.returns
returns c = equal_collects_stand_together
