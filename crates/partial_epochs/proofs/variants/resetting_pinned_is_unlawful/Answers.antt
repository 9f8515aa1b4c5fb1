use Rattle.partial_epochs.proofs.Refused.{resetting_pinned_is_unlawful}
use Rattle.partial_epochs.proofs.variants.resetting_pinned_is_unlawful.Goals as goal

pub returns : goal.returns
returns c = resetting_pinned_is_unlawful
