use Rattle.partial_core.proofs.Ordered.{lawful_is_orderly}
use Rattle.partial_core.proofs.law.lawful_words_are_orderly.Goals as goal

pub returns : goal.returns
returns c = lawful_is_orderly
