use Rattle.std.proofs.Common.{rules, tests}
use Rattle.partial_text.specs.Judging.{scan_from}
use Rattle.partial_text.proofs.calls.scan.Goals as goal

pub returns : goal.returns
unfolding scan_from
returns c = search (tests, rules)
