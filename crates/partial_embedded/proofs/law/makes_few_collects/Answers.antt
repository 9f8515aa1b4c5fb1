use Rattle.partial_embedded.proofs.RunLaws.{makes_few_collects}
use Rattle.partial_embedded.proofs.law.makes_few_collects.Goals as goal

pub returns : goal.returns
returns c = makes_few_collects
