use Rattle.std.proofs.Common.{arith}
use Rattle.partial_long_lived.proofs.{Common.{About, ap, sym, ◌∙◌, ◌==◌}, Asked.begin_pass_asked, Looking.pass_begun, Standing.{site_is, some_word}}
use Rattle.partial_long_lived.proofs.claim.begin_pass.Goals as goal

pub load-found-requires : goal.load-found-requires
load-found-requires c = let h = c.requires.held in (h.fits, some_word _ _ _ h, begin_pass_asked _ _ _ h c.requires.may _ _)

pub returns-clause-steps : goal.returns-clause-steps
returns-clause-steps c = let one = c.load-found.ensures.3 in omega (arith, one)

pub returns-clause-begun : goal.returns-clause-begun
returns-clause-begun c =
    let h = c.requires.held in
    pass_begun c.args.stand.now (record c.args.stand.now { seat = c.load-found.new.seat }) c.load-found.result c.args.words.now.key.arenas c.load-found.ensures.2.2 c.requires.passed (ap (λ (a : About). a.arenas) (sym h.own)) _
    (ap (λ n. c.load-found.result == n) (c.packed.ensures ∙ site_is _ _ _ h))
