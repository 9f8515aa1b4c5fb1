use Rattle.std.proofs.Common.{rules, tests}
use Rattle.partial_machine.proofs.machine.Core.scan_positions.Goals as goal

pub make-requires-clause-together : goal.make-requires-clause-together
make-requires-clause-together c = search (tests, rules)
