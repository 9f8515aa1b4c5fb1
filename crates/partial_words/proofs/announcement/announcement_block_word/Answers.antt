use Rattle.std.proofs.Common.{rules, tests}
use Rattle.partial_words.proofs.announcement.announcement_block_word.Goals as goal

pub returns-in_default : goal.returns-in_default
returns-in_default c = search (tests, rules)
