use Rattle.std.proofs.Common.{rules, tests}
use Rattle.partial_text.proofs.device.Device.reads.Goals as goal

pub returns : goal.returns
returns c = search (tests, rules)
