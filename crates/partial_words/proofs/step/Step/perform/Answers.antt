use Rattle.std.proofs.Common.{rules, tests}
use Rattle.partial_words.proofs.step.Step.perform.Goals as goal

pub returns-after-before-old-clause-words : goal.returns-after-before-old-clause-words
returns-after-before-old-clause-words c = search (tests, rules)
