use Rattle.partial_long_lived.proofs.AllPorts.{closed_with_all_ports}
use Rattle.partial_long_lived.proofs.law.closed_with_all_ports.Goals as goal

pub returns : goal.returns
returns c = closed_with_all_ports
