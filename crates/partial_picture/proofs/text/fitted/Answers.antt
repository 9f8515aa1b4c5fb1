use Rattle.std.proofs.Common.{tests}
use Rattle.partial_picture.proofs.Common.{rules, ◌/◌, ◌-◌}
use Rattle.std.proofs.lemmas.Iterator.{YieldsList-from_chars, YieldsList-from_take, text_from_collect}
use Rattle.partial_picture.proofs.text.fitted.Goals as goal

pub returns-clause-cut : goal.returns-clause-cut
returns-clause-cut c =
    let made = text_from_collect _ c.collect.ensures.ran (YieldsList-from_take (c.args.room.0 / 7 - 1) (YieldsList-from_chars c.args.words.now c.utf8.words cc) cc) in
    search (rules, made)

pub returns-then-letters-lt3-clause-whole : goal.returns-then-letters-lt3-clause-whole
returns-then-letters-lt3-clause-whole c = search (tests, rules)
