use Rattle.std.proofs.Common.{rules, tests}
use Rattle.partial_long_lived.proofs.scan.scan_announced.Goals as goal

pub scan-requires-clause-rests : goal.scan-requires-clause-rests
scan-requires-clause-rests c = search (tests, rules)
