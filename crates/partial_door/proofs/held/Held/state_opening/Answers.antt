use Rattle.partial_door.proofs.Common.{refl, inr}
use Rattle.partial_door.proofs.held.Held.state_opening.Goals as goal

pub returns-in-OpeningPort : goal.returns-in-OpeningPort
returns-in-OpeningPort c = inr (c.in-OpeningPort.own, c.in-OpeningPort.own, c.in-OpeningPort.is, c.in-OpeningPort.is, record { opening = refl; memory = refl }, (refl, c.port_state.ensures, refl))
