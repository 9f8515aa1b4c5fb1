use Rattle.std.proofs.Common.{arith, rules, tests}
use Rattle.partial_long_lived.proofs.{Common.◌∙◌, Entry.{arrive_asked, load_asked, entering_asked}, Standing.{port_word, some_word}}
use Rattle.partial_long_lived.proofs.enter.enter.Goals as goal

pub store-requires : goal.store-requires
store-requires c = let h = c.requires.held in (h.fits, port_word _ _ _ h, entering_asked _ _ _ h c.requires.may _ _ _ c.packed-entering_word.ensures)

pub load-current-requires : goal.load-current-requires
load-current-requires c =
    let h = c.requires.held in
    (c.store.ensures.0 ∙ h.fits, some_word _ _ _ h, load_asked _ _ _ h _ 0 c.store.ensures.2 _ _)

pub compare_exchange-found-requires : goal.compare_exchange-found-requires
compare_exchange-found-requires c =
    let h = c.requires.held in
    (c.load-current.ensures.0 ∙ c.store.ensures.0 ∙ h.fits, port_word _ _ _ h, arrive_asked _ _ _ h _ 0 c.store.ensures.2 _ _ c.load-current.ensures.2 _ _ _ c.packed-entering_word.ensures)

pub returns-clause-held : goal.returns-clause-held
returns-clause-held c = search (tests, rules)

pub returns-clause-steps : goal.returns-clause-steps
returns-clause-steps c = let one = c.store.ensures.3 in let two = c.load-current.ensures.3 in let three = c.compare_exchange-found.ensures.3 in omega (arith, one, two, three)
