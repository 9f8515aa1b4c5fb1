use Rattle.std.proofs.Common.{rules, tests}
use Rattle.partial_text.proofs.device.Device.read.Goals as goal

pub returns-in-Err-clause-bytes : goal.returns-in-Err-clause-bytes
returns-in-Err-clause-bytes c = search (tests, rules)

pub returns-in-Ok-clause-counted : goal.returns-in-Ok-clause-counted
returns-in-Ok-clause-counted c = search (tests, rules)
