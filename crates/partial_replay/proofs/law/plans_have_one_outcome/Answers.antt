use Rattle.partial_replay.proofs.OneOutcome as outcomes
use Rattle.partial_replay.proofs.law.plans_have_one_outcome.Goals as goal

pub returns : goal.returns
returns c = outcomes.plans_have_one_outcome
