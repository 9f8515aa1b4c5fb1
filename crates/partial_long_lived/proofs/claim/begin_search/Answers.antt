use Rattle.std.proofs.Common.{arith}
use Rattle.partial_long_lived.proofs.{Asked.begin_search_asked, Standing.some_word}
use Rattle.partial_long_lived.proofs.claim.begin_search.Goals as goal

pub load-found-requires : goal.load-found-requires
load-found-requires c = let h = c.requires.held in (h.fits, some_word _ _ _ h, begin_search_asked _ _ _ h c.requires.may _ _)

pub returns-clause-steps : goal.returns-clause-steps
returns-clause-steps c = let one = c.load-found.ensures.3 in omega (arith, one)
