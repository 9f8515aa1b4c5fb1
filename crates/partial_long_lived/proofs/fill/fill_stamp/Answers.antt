use Rattle.partial_long_lived.proofs.Staying.{stays_then}
use Rattle.partial_long_lived.proofs.fill.fill_stamp.Goals as goal

pub returns-clause-stays : goal.returns-clause-stays
returns-clause-stays c = stays_then _ _ _ c.find_stamp-stamp.ensures.stays c.set_stamp.ensures.stays
