use Rattle.partial_core.proofs.ActiveRuns.{lawful_runs_are_orderly}
use Rattle.partial_core.proofs.law.lawful_runs_are_orderly.Goals as goal

pub returns : goal.returns
returns c = lawful_runs_are_orderly
