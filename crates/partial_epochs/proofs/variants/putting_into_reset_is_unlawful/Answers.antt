use Rattle.partial_epochs.proofs.Refused.{putting_into_reset_is_unlawful}
use Rattle.partial_epochs.proofs.variants.putting_into_reset_is_unlawful.Goals as goal

pub returns : goal.returns
returns c = putting_into_reset_is_unlawful
