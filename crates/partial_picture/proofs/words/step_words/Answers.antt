use Rattle.std.proofs.Common.{rules, tests}
use Rattle.partial_picture.proofs.words.step_words.Goals as goal

pub returns-in-Exchange-2 : goal.returns-in-Exchange-2
returns-in-Exchange-2 c = search (tests, rules)
