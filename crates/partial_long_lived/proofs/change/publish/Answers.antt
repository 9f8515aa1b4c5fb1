use Rattle.std.proofs.Common.{arith}
use Rattle.partial_long_lived.proofs.{Common.{◌+◌, ◌*◌, ap}, Asked.publish_asked, Standing.some_word, Working.publish_owns}
use Rattle.partial_long_lived.proofs.change.publish.Goals as goal

pub compare_exchange-requires : goal.compare_exchange-requires
compare_exchange-requires c =
    let h = c.requires.held in (
      h.fits,
      some_word _ _ _ h,
      publish_asked _ _ _ h c.args.arena c.requires.works c.requires.room _ _ _ _ c.packed-here.ensures (ap (λ n. (c.args.stand.now.epoch + 1) * 65536 + n) c.from.ensures),
    )

pub returns-clause-owns : goal.returns-clause-owns
returns-clause-owns c = publish_owns c.args.stand.now _ c.args.arena _ _ c.compare_exchange.result c.requires.works c.compare_exchange.ensures.2.2

pub returns-clause-steps : goal.returns-clause-steps
returns-clause-steps c = let one = c.compare_exchange.ensures.3 in omega (arith, one)
