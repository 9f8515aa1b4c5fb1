use Rattle.partial_long_lived.proofs.{DoubleCollect.{come_named}, ScanByChange.{further_named, further_refused}}
use Rattle.partial_long_lived.proofs.scan_by_change.scan_by_change.Goals as goal

pub returns-then-collects_after_all-clause-scanned : goal.returns-then-collects_after_all-clause-scanned
returns-then-collects_after_all-clause-scanned c =
    let s = c.settle_resting.ensures.settled in
    come_named _ _ _ s.come s.notes _ _ _ _ _ (c.collects_after_all.ensures.scanned c.if-collects_after_all.true)

pub returns-clause-scanned : goal.returns-clause-scanned
returns-clause-scanned c =
    let s = c.settle_resting.ensures.settled in
    let d = c.collects_after_all.ensures in
    further_named _ _ _ _ s d.stayed (d.notes c.if-collects_after_all.false) _ _ _ _ c.scan_next.ensures.scanned

pub returns-clause-refused : goal.returns-clause-refused
returns-clause-refused c =
    let s = c.settle_resting.ensures.settled in
    let d = c.collects_after_all.ensures in
    further_refused _ _ _ _ s d.stayed (d.notes c.if-collects_after_all.false) _ c.scan_next.ensures.refused
