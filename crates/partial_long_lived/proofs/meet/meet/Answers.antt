use Rattle.partial_long_lived.proofs.Meetings.{swapped, swapped_lawful}
use Rattle.partial_long_lived.proofs.meet.meet.Goals as goal

pub returns-clause-order : goal.returns-clause-order
returns-clause-order c = swapped c.meet_later-second.ensures.order

pub returns-clause-lawful : goal.returns-clause-lawful
returns-clause-lawful c = swapped_lawful c.meet_later-second.ensures.lawful
