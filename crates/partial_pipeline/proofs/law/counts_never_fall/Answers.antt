use Rattle.partial_pipeline.proofs.Pipes.{counts_never_fall}
use Rattle.partial_pipeline.proofs.law.counts_never_fall.Goals as goal

pub returns : goal.returns
returns c = counts_never_fall
