use Rattle.partial_model.proofs.StampsStay.{stamps_never_return}
use Rattle.partial_model.proofs.law.stamps_never_return.Goals as goal

pub returns : goal.returns
returns c = stamps_never_return
