use Rattle.partial_long_lived.proofs.{Answering.rests_here, Scans.has_named}
use Rattle.partial_long_lived.proofs.scan_by_change.scan_next.Goals as goal

pub note_initial-requires-clause-entered : goal.note_initial-requires-clause-entered
note_initial-requires-clause-entered c = (c.args.stand.now, c.in_ok-enter_resting.ensures.entered)

pub returns-clause-rests : goal.returns-clause-rests
returns-clause-rests c = let n = c.note_initial.ensures in rests_here _ _ _ _ n.come c.in_ok-enter_resting.ensures.rests n.scanned.made.epoch

pub returns-clause-scanned : goal.returns-clause-scanned
returns-clause-scanned c = has_named _ _ _ _ _ _ _ _ c.in_ok-enter_resting.ensures.entered.settled c.note_initial.ensures.scanned
