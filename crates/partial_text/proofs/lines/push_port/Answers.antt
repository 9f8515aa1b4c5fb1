use Rattle.std.proofs.Common.{rules, tests}
use Rattle.partial_text.specs.Judging.{more_ports}
use Rattle.partial_text.proofs.lines.push_port.Goals as goal

pub returns-in_err-calls-clause-value : goal.returns-in_err-calls-clause-value
unfolding more_ports
returns-in_err-calls-clause-value c = search (tests, rules)
