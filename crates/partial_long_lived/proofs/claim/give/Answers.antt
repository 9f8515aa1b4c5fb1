use Rattle.std.proofs.Common.{arith}
use Rattle.partial_long_lived.proofs.{Asked.{give_asked, own_there}, Working.give_passes}
use Rattle.partial_long_lived.proofs.claim.give.Goals as goal

pub store-requires : goal.store-requires
store-requires c =
    let h = c.requires.held in
    let word = c.own_word-word.ensures in
    (h.fits, own_there _ _ _ h _ _ c.requires.inside word, give_asked _ _ _ h c.args.arena c.requires.owns c.requires.cause _ _ _ word)

pub returns-clause-steps : goal.returns-clause-steps
returns-clause-steps c = let one = c.store.ensures.3 in omega (arith, one)

pub returns-clause-passes : goal.returns-clause-passes
returns-clause-passes c = λ met. give_passes c.args.stand.now (record c.args.stand.now { seat = c.store.new.seat }) c.args.arena 0 c.requires.owns c.store.ensures.2.2 met
