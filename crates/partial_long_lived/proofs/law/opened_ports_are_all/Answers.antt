use Rattle.partial_long_lived.proofs.AllPorts.{opened_ports_are_all}
use Rattle.partial_long_lived.proofs.law.opened_ports_are_all.Goals as goal

pub returns : goal.returns
returns c = opened_ports_are_all
