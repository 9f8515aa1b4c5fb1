use Rattle.std.proofs.Common.{rules, tests}
use Rattle.partial_memory.proofs.{Common.Load, Straight.{next_asked, next_counts, next_going, next_leads}}
use Rattle.partial_memory.proofs.lines.make_load.Goals as goal

pub load-requires : goal.load-requires
load-requires c =
    let r = next_asked _ _ _ _ c.requires.going (Load _) c.requires.due _ _ in
    (c.requires.going.fits, r.0, r.1)

pub returns-clause-going : goal.returns-clause-going
returns-clause-going c = next_going _ _ _ _ c.requires.going (Load _) c.requires.due _ _ _ c.load.ensures.0 c.load.ensures.2.0 c.load.ensures.2.1

pub returns-clause-leads : goal.returns-clause-leads
returns-clause-leads c = next_leads _ c.requires.going.under (Load _) c.requires.due _ _ c.load.ensures.2.1

pub returns-clause-machine : goal.returns-clause-machine
returns-clause-machine c = search (tests, rules)

pub returns-clause-counted : goal.returns-clause-counted
returns-clause-counted c = next_counts _ c.requires.going.under (Load _) c.requires.due _ _ c.load.ensures.2.1 _ _ c.load.ensures.3
