use Rattle.std.proofs.Common.{rules, tests}
use Rattle.partial_long_lived.proofs.Scans.{has_named}
use Rattle.partial_long_lived.proofs.scan.scan.Goals as goal

pub returns-clause-scanned : goal.returns-clause-scanned
returns-clause-scanned c = has_named _ _ _ _ _ _ _ _ c.settle_first.ensures.settled c.make_scan.ensures.scanned

pub make_scan-requires-clause-held : goal.make_scan-requires-clause-held
make_scan-requires-clause-held c = search (tests, rules)
