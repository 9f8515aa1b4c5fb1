use Rattle.partial_memory.proofs.{Common.{Some, ap, ◌∙◌, Store, Exchange, Add}, Straight.{next_asked, next_counts, next_going, next_leads}}
use Rattle.partial_memory.proofs.lines.make.Goals as goal

pub store-requires : goal.store-requires
store-requires c =
    let r = next_asked _ _ _ _ c.requires.going (Store _ _) (c.requires.due ∙ ap Some c.in-Store.is) _ _ in
    (c.requires.going.fits, r.0, r.1)

pub returns-in-Store-clause-going : goal.returns-in-Store-clause-going
returns-in-Store-clause-going c =
    next_going _ _ _ _ c.requires.going (Store _ _) (c.requires.due ∙ ap Some c.in-Store.is) _ _ _ c.store.ensures.0 c.store.ensures.2.0 c.store.ensures.2.1

pub returns-in-Store-clause-leads : goal.returns-in-Store-clause-leads
returns-in-Store-clause-leads c = next_leads _ c.requires.going.under (Store _ _) (c.requires.due ∙ ap Some c.in-Store.is) _ _ c.store.ensures.2.1

pub compare_exchange-requires : goal.compare_exchange-requires
compare_exchange-requires c =
    let r = next_asked _ _ _ _ c.requires.going (Exchange _ _ _) (c.requires.due ∙ ap Some c.in-Exchange.is) _ _ in
    (c.requires.going.fits, r.0, r.1)

pub returns-in-Exchange-clause-going : goal.returns-in-Exchange-clause-going
returns-in-Exchange-clause-going c =
    next_going _ _ _ _ c.requires.going (Exchange _ _ _) (c.requires.due ∙ ap Some c.in-Exchange.is) _ _ _ c.compare_exchange.ensures.0 c.compare_exchange.ensures.2.0 c.compare_exchange.ensures.2.1

pub returns-in-Exchange-clause-leads : goal.returns-in-Exchange-clause-leads
returns-in-Exchange-clause-leads c = next_leads _ c.requires.going.under (Exchange _ _ _) (c.requires.due ∙ ap Some c.in-Exchange.is) _ _ c.compare_exchange.ensures.2.1

pub fetch_add-requires : goal.fetch_add-requires
fetch_add-requires c =
    let r = next_asked _ _ _ _ c.requires.going (Add _ _) (c.requires.due ∙ ap Some c.in-Add.is) _ _ in
    (c.requires.going.fits, r.0, r.1)

pub returns-in-Add-clause-going : goal.returns-in-Add-clause-going
returns-in-Add-clause-going c =
    next_going _ _ _ _ c.requires.going (Add _ _) (c.requires.due ∙ ap Some c.in-Add.is) _ _ _ c.fetch_add.ensures.0 c.fetch_add.ensures.2.0 c.fetch_add.ensures.2.1

pub returns-in-Add-clause-leads : goal.returns-in-Add-clause-leads
returns-in-Add-clause-leads c = next_leads _ c.requires.going.under (Add _ _) (c.requires.due ∙ ap Some c.in-Add.is) _ _ c.fetch_add.ensures.2.1

pub returns-in-Store-clause-counted : goal.returns-in-Store-clause-counted
returns-in-Store-clause-counted c = next_counts _ c.requires.going.under (Store _ _) (c.requires.due ∙ ap Some c.in-Store.is) _ _ c.store.ensures.2.1 _ _ c.store.ensures.3

pub returns-in-Exchange-clause-counted : goal.returns-in-Exchange-clause-counted
returns-in-Exchange-clause-counted c = next_counts _ c.requires.going.under (Exchange _ _ _) (c.requires.due ∙ ap Some c.in-Exchange.is) _ _ c.compare_exchange.ensures.2.1 _ _ c.compare_exchange.ensures.3

pub returns-in-Add-clause-counted : goal.returns-in-Add-clause-counted
returns-in-Add-clause-counted c = next_counts _ c.requires.going.under (Add _ _) (c.requires.due ∙ ap Some c.in-Add.is) _ _ c.fetch_add.ensures.2.1 _ _ c.fetch_add.ensures.3
