use Rattle.partial_embedded.proofs.RunLaws.{loads_its_positions_alone}
use Rattle.partial_embedded.proofs.law.loads_its_positions_alone.Goals as goal

pub returns : goal.returns
returns c = loads_its_positions_alone
