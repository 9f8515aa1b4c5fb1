use Rattle.partial_knowledge.proofs.Sets.{getsets_know}
use Rattle.partial_knowledge.proofs.law.getsets_know.Goals as goal

pub returns : goal.returns
returns c = getsets_know
