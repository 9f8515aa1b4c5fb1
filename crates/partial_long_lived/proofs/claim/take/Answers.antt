use Rattle.std.proofs.Common.{arith, rules, tests}
use Rattle.partial_long_lived.proofs.{Common.{◌≡◌, ◌+◌, ap, About}, Asked.{own_is, own_there, take_asked}, Working.take_passes}
use Rattle.partial_long_lived.proofs.claim.take.Goals as goal

pub compare_exchange-requires : goal.compare_exchange-requires
compare_exchange-requires c =
    let h = c.requires.held in
    let word = c.own_word-word.ensures in
    (h.fits, own_there _ _ _ h _ _ c.requires.inside word, take_asked _ _ _ h c.args.arena c.requires.may c.requires.inside c.requires.apart c.requires.searches _ _ _ _ word (ap (λ n. 1 + n) c.from-owner.ensures))

pub returns-clause-tried : goal.returns-clause-tried
returns-clause-tried c = search (tests, rules)

pub returns-clause-steps : goal.returns-clause-steps
returns-clause-steps c = let one = c.compare_exchange.ensures.3 in omega (arith, one)

pub returns-clause-passes : goal.returns-clause-passes
returns-clause-passes c =
    let h = c.requires.held in
    let at : c.own_word-word.result ≡ 1 + c.args.words.now.key.ports + c.args.arena = own_is _ _ _ h c.args.arena _ c.own_word-word.ensures in
    let ports = ap (λ (a : About). a.ports) h.own in
    take_passes c.args.stand.now (record c.args.stand.now { seat = c.compare_exchange.new.seat }) c.args.arena c.own_word-word.result c.compare_exchange.result (omega (arith, at, ports)) c.compare_exchange.ensures.2.2 c.requires.searches
