use Rattle.std.proofs.Common.{rules, tests}
use Rattle.partial_text.proofs.device.Device.write.Goals as goal

pub returns-in-Ok : goal.returns-in-Ok
returns-in-Ok c = search (tests, rules)
