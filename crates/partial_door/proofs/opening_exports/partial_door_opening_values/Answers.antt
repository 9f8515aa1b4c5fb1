use Rattle.partial_door.proofs.Common.{inr}
use Rattle.partial_door.proofs.opening_exports.partial_door_opening_values.Goals as goal

pub returns-clause-copied : goal.returns-clause-copied
returns-clause-copied c = inr (_, c.in-Some.ensures.lent, c.copy_values.ensures)
