use Rattle.partial_memory.proofs.AllPorts.{opened_ports_are_all}
use Rattle.partial_memory.proofs.law.opened_ports_are_all.Goals as goal

pub returns : goal.returns
returns c = opened_ports_are_all
