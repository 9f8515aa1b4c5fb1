use Rattle.partial_core.proofs.WholeCalls.{ports_come_between}
use Rattle.partial_core.proofs.law.ports_come_between.Goals as goal

pub returns : goal.returns
returns c = ports_come_between
