use Rattle.partial_epochs.proofs.Refused.{unsealing_is_unlawful}
use Rattle.partial_epochs.proofs.variants.unsealing_is_unlawful.Goals as goal

pub returns : goal.returns
returns c = unsealing_is_unlawful
