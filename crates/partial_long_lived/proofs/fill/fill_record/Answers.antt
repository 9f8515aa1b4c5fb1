use Rattle.partial_long_lived.proofs.{Staying.stays_then, Working.set_kept}
use Rattle.partial_long_lived.proofs.fill.fill_record.Goals as goal

pub set_value-requires-clause-works : goal.set_value-requires-clause-works
set_value-requires-clause-works c = set_kept _ _ _ _ _ c.find_value-value.ensures.control c.requires.works

pub returns-clause-stays : goal.returns-clause-stays
returns-clause-stays c = stays_then _ _ _ c.find_value-value.ensures.stays c.set_value.ensures.stays
