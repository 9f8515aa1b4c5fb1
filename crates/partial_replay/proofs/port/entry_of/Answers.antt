use Rattle.std.proofs.Common.{rules, tests}
use Rattle.partial_replay.proofs.port.entry_of.Goals as goal

pub returns-in_default : goal.returns-in_default
returns-in_default c = search (tests, rules)

pub returns-then-component-m : goal.returns-then-component-m
returns-then-component-m c = search (tests, rules)
