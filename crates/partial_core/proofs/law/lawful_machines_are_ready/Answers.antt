use Rattle.partial_core.proofs.Machines.{lawful_machines_are_ready}
use Rattle.partial_core.proofs.law.lawful_machines_are_ready.Goals as goal

pub returns : goal.returns
returns c = lawful_machines_are_ready
