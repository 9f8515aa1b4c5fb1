use Rattle.std.proofs.Common.{rules, tests}
use Rattle.partial_picture.proofs.picture.Picture.of.Goals as goal

pub returns-in_err-span-clause-window : goal.returns-in_err-span-clause-window
returns-in_err-span-clause-window c = search (tests, rules)
