use Rattle.std.proofs.Common.{rules, tests}
use Rattle.partial_long_lived.proofs.{Common.{Some, refl, ap, ◌∙◌, Exchange, Add}, Straight.{add_asked, add_told, exchange_asked, exchange_told, going_on, leads_there, step_there}}
use Rattle.partial_long_lived.proofs.lines.make.Goals as goal

pub compare_exchange-requires : goal.compare_exchange-requires
compare_exchange-requires c =
    let w = c.requires.going in
    let due = c.requires.due ∙ ap Some c.in-Exchange.is in
    rw c.from-in-Exchange.ensures (w.held.fits, step_there _ _ _ w (Exchange _ _ _) due, exchange_asked _ _ _ w c.requires.quiet _ _ _ due _ _)

pub returns-in-Exchange-clause-going : goal.returns-in-Exchange-clause-going
returns-in-Exchange-clause-going c =
    let w = c.requires.going in
    let due = c.requires.due ∙ ap Some c.in-Exchange.is in
    let told = rw c.from-in-Exchange.ensures at c.compare_exchange.ensures.2 in
    going_on _ _ _ w (Exchange _ _ _) due _ c.compare_exchange.ensures.0 told.0 told.1 _ (exchange_told _ _ _ w c.requires.quiet _ _ _ due _ _ told.2) refl refl refl refl refl refl

pub returns-in-Exchange-clause-leads : goal.returns-in-Exchange-clause-leads
returns-in-Exchange-clause-leads c =
    let w = c.requires.going in
    let due = c.requires.due ∙ ap Some c.in-Exchange.is in
    let told = rw c.from-in-Exchange.ensures at c.compare_exchange.ensures.2 in
    leads_there _ _ _ w (Exchange _ _ _) due _ c.compare_exchange.ensures.0 told.0 told.1 _ (exchange_told _ _ _ w c.requires.quiet _ _ _ due _ _ told.2) refl refl refl refl refl refl c.compare_exchange.ensures.3

pub fetch_add-requires : goal.fetch_add-requires
fetch_add-requires c =
    let w = c.requires.going in
    let due = c.requires.due ∙ ap Some c.in-Add.is in
    rw c.from-in-Add.ensures (w.held.fits, step_there _ _ _ w (Add _ _) due, add_asked _ _ _ w c.requires.quiet _ _ due _ _)

pub returns-in-Add-clause-going : goal.returns-in-Add-clause-going
returns-in-Add-clause-going c =
    let w = c.requires.going in
    let due = c.requires.due ∙ ap Some c.in-Add.is in
    let told = rw c.from-in-Add.ensures at c.fetch_add.ensures.2 in
    going_on _ _ _ w (Add _ _) due _ c.fetch_add.ensures.0 told.0 told.1 _ (add_told _ _ _ w c.requires.quiet _ _ due _ _ told.2) refl refl refl refl refl refl

pub returns-in-Add-clause-leads : goal.returns-in-Add-clause-leads
returns-in-Add-clause-leads c =
    let w = c.requires.going in
    let due = c.requires.due ∙ ap Some c.in-Add.is in
    let told = rw c.from-in-Add.ensures at c.fetch_add.ensures.2 in
    leads_there _ _ _ w (Add _ _) due _ c.fetch_add.ensures.0 told.0 told.1 _ (add_told _ _ _ w c.requires.quiet _ _ due _ _ told.2) refl refl refl refl refl refl c.fetch_add.ensures.3

pub returns-in-Add-clause-machine : goal.returns-in-Add-clause-machine
returns-in-Add-clause-machine c = search (tests, rules)
