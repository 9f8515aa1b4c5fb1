use Rattle.partial_pipeline.proofs.Pipes.{counts_stay_ordered}
use Rattle.partial_pipeline.proofs.law.counts_stay_ordered.Goals as goal

pub returns : goal.returns
returns c = counts_stay_ordered
