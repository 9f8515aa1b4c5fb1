use Rattle.partial_long_lived.proofs.{Common.arith, Sights.may_note, Standing.arena_there}
use Rattle.partial_long_lived.proofs.double_collect.load_noting.Goals as goal

pub load-requires : goal.load-requires
load-requires g c =
    let h = c.requires.held in
    let within = c.requires.within in
    let at = c.value_word.ensures in
    rw c.requires.base (h.fits, arena_there _ _ _ h _ (omega (arith, within, at)), may_note _ _ _ _ h.one h.own h.known c.requires.stands _ _ c.requires.may _)

pub returns-clause-steps : goal.returns-clause-steps
returns-clause-steps g c = let one = c.load.ensures.3 in omega (arith, one)
