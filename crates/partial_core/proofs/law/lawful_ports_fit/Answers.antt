use Rattle.partial_core.proofs.Ports.{lawful_ports_fit}
use Rattle.partial_core.proofs.law.lawful_ports_fit.Goals as goal

pub returns : goal.returns
returns c = lawful_ports_fit
