use Rattle.partial_core.proofs.Ports.{lawful_records_are_within}
use Rattle.partial_core.proofs.law.lawful_records_are_within.Goals as goal

pub returns : goal.returns
returns c = lawful_records_are_within
