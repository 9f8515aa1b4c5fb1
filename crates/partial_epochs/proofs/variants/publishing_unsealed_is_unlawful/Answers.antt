use Rattle.partial_epochs.proofs.Refused.{publishing_unsealed_is_unlawful}
use Rattle.partial_epochs.proofs.variants.publishing_unsealed_is_unlawful.Goals as goal

pub returns : goal.returns
returns c = publishing_unsealed_is_unlawful
