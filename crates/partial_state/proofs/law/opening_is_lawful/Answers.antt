use Rattle.partial_state.proofs.OpeningLaw.{opening_is_lawful}
use Rattle.partial_state.proofs.law.opening_is_lawful.Goals as goal

pub returns : goal.returns
returns c = opening_is_lawful
