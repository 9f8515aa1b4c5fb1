use Rattle.std.proofs.Common.{rules, tests}
use Rattle.partial_picture.proofs.Common.{arith}
use Rattle.partial_picture.proofs.command.draw.Goals as goal

pub returns-clause-written : goal.returns-clause-written
returns-clause-written g c = (c.as_bytes.result.now, omega (arith, c.as_bytes.ensures.len, c.in_ok-text.ensures.some), c.in_ok-write_text.ensures.ok)

pub returns-in_err-plan-clause-read_fault : goal.returns-in_err-plan-clause-read_fault
returns-in_err-plan-clause-read_fault g c = search (tests, rules)
