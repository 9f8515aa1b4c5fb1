use Rattle.std.proofs.Common.{rules, tests}
use Rattle.partial_picture.proofs.words.word_words.Goals as goal

pub returns-then-word-m : goal.returns-then-word-m
returns-then-word-m c = search (tests, rules)
