use Rattle.std.proofs.Common.{arith, rules, tests}
use Rattle.partial_long_lived.proofs.{Control.may_look, Standing.{some_word, own_look}}
use Rattle.partial_long_lived.proofs.enter.look.Goals as goal

pub load-found-requires : goal.load-found-requires
load-found-requires g c =
    let h = c.requires.held in
    (h.fits, some_word _ _ _ h, may_look _ _ _ _ h.one h.own h.known g.F.When.first (own_look _ _ h.own c.requires.may))

pub returns-clause-looked : goal.returns-clause-looked
returns-clause-looked g c = search (tests, rules)

pub returns-clause-steps : goal.returns-clause-steps
returns-clause-steps g c = let one = c.load-found.ensures.3 in omega (arith, one)
