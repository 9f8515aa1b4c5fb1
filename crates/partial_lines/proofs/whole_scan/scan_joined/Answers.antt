use Rattle.std.proofs.Common.{rules, tests}
use Rattle.partial_lines.proofs.whole_scan.scan_joined.Goals as goal

pub make-requires-clause-due : goal.make-requires-clause-due
make-requires-clause-due c = search (tests, rules)

pub returns-clause-copied : goal.returns-clause-copied
returns-clause-copied c = search (tests, rules)
