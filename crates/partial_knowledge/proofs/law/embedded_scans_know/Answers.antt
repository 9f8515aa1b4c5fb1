use Rattle.partial_knowledge.proofs.Scans.{embedded_scans_know}
use Rattle.partial_knowledge.proofs.law.embedded_scans_know.Goals as goal

pub returns : goal.returns
returns c = embedded_scans_know
