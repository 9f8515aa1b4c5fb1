use Rattle.std.proofs.Common.{arith, rules, tests}
use Rattle.partial_long_lived.proofs.{Common.{sym, subst, ◌<◌}, Sights.may_recall}
use Rattle.partial_long_lived.proofs.arena.recall.Goals as goal

pub load-requires : goal.load-requires
load-requires c =
    let h = c.requires.held in
    (h.fits, subst (λ n. c.args.word < n) (sym h.words) c.requires.within, may_recall _ _ _ _ h.one h.own h.known c.requires.stands c.args.word)

pub returns-clause-recalls : goal.returns-clause-recalls
returns-clause-recalls c = search (tests, rules)

pub returns-clause-steps : goal.returns-clause-steps
returns-clause-steps c = let one = c.load.ensures.3 in omega (arith, one)
