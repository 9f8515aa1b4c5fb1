use Rattle.partial_memory.proofs.AllPorts.{closed_with_all_ports}
use Rattle.partial_memory.proofs.law.closed_with_all_ports.Goals as goal

pub returns : goal.returns
returns c = closed_with_all_ports
