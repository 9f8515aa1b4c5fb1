use Rattle.partial_long_lived.proofs.{Common.{◌<◌, ap, arith, CoreState}, Standing.component_there, Updating.{begin_asked, begun_at}}
use Rattle.partial_long_lived.proofs.attempt.begin.Goals as goal

pub load-requires : goal.load-requires
load-requires g c =
    let h = c.requires.held in
    let is = c.from.ensures in
    let inside : c.from.result < c.args.words.now.key.sizes.m = (let low = c.requires.inside in omega (arith, is, low)) in
    (h.fits, component_there _ _ _ h _ inside, begin_asked _ _ _ h _ c.requires.begins c.args.change (ap (λ (d : CoreState). d.stage) c.requires.moment) c.requires.inside _ is g.F.When.first _ _)

pub returns-clause-begun : goal.returns-clause-begun
returns-clause-begun g c =
    begun_at _ _ _ c.requires.held _ c.requires.begins c.args.change (ap (λ (d : CoreState). d.stage) c.requires.moment) c.requires.inside _ c.from.ensures g.F.When.first _ _ c.load.ensures.2
