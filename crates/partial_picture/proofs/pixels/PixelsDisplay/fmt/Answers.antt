use Rattle.std.proofs.Common.{rules, tests}
use Rattle.partial_picture.proofs.pixels.PixelsDisplay.fmt.Goals as goal

pub returns-clause-writes : goal.returns-clause-writes
returns-clause-writes c = search (tests, rules)
