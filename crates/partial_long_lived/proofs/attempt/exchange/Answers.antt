use Rattle.partial_long_lived.proofs.{Common.{◌<◌, arith}, Standing.component_there, Updating.{exchange_asked, exchanged_at}}
use Rattle.partial_long_lived.proofs.attempt.exchange.Goals as goal

pub compare_exchange-requires : goal.compare_exchange-requires
compare_exchange-requires c =
    let w = c.requires.going in
    let is = c.from.ensures in
    let inside : c.from.result < c.args.words.now.key.sizes.m = (let low = c.requires.inside in omega (arith, is, low)) in
    (w.held.fits, component_there _ _ _ w.held _ inside, exchange_asked _ _ _ w c.args.change c.args.old c.args.at c.requires.due c.requires.inside _ is _ _)

pub returns-clause-exchanged : goal.returns-clause-exchanged
returns-clause-exchanged c = exchanged_at _ _ _ c.requires.going c.args.change c.args.old c.args.at c.requires.due c.requires.inside _ c.from.ensures _ _ c.compare_exchange.ensures.2

pub returns-clause-steps : goal.returns-clause-steps
returns-clause-steps c = let one = c.compare_exchange.ensures.3 in omega (arith, one)
