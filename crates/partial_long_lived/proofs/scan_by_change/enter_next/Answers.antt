use Rattle.partial_long_lived.proofs.ScanByChange.{entered_come, entered_not, entered_young}
use Rattle.partial_long_lived.proofs.scan_by_change.enter_next.Goals as goal

pub returns-clause-come : goal.returns-clause-come
returns-clause-come c = entered_come _ _ _ _ _ c.settle.ensures.held c.settle.ensures.settled _ c.change.ensures.changed c.change.ensures.refused

pub returns-clause-entered : goal.returns-clause-entered
returns-clause-entered c = entered_young _ _ _ _ _ c.settle.ensures.held c.settle.ensures.settled _ c.change.ensures.changed

pub returns-clause-refused : goal.returns-clause-refused
returns-clause-refused c = entered_not _ _ _ _ _ c.settle.ensures.held c.settle.ensures.settled _ c.change.ensures.refused c.change.ensures.cause
