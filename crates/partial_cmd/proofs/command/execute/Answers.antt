use Rattle.std.proofs.Common.{rules, tests}
use Rattle.partial_cmd.proofs.command.execute.Goals as goal

pub returns-in_err-plan-clause-read_fault : goal.returns-in_err-plan-clause-read_fault
returns-in_err-plan-clause-read_fault c = search (tests, rules)
