use Rattle.std.proofs.Common.{rules, tests}
use Rattle.partial_long_lived.proofs.{Common.{◌+◌, ap, arith}, Asked.{seal_asked}, Standing.component_there}
use Rattle.partial_long_lived.proofs.seal.pass.Goals as goal

pub fetch_add-requires : goal.fetch_add-requires
fetch_add-requires c =
    let h = c.requires.held in
    let is = c.from.ensures in
    let low = c.requires.more in
    (h.fits, component_there _ _ _ h c.from.result (omega (arith, is, low)), seal_asked _ _ _ h c.requires.may.stands low _ _ _ (ap (λ n. c.args.stand.now.base + n) is))

pub returns-clause-held : goal.returns-clause-held
returns-clause-held c = search (tests, rules)
