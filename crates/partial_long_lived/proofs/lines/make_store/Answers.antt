use Rattle.partial_long_lived.proofs.{Common.{refl, Store}, Straight.{going_on, leads_there, step_there, store_asked, store_told}}
use Rattle.partial_long_lived.proofs.lines.make_store.Goals as goal

pub store-requires : goal.store-requires
store-requires c =
    let w = c.requires.going in
    rw c.from.ensures (w.held.fits, step_there _ _ _ w (Store _ _) c.requires.due, store_asked _ _ _ w _ _ c.requires.due _ _)

pub returns-clause-going : goal.returns-clause-going
returns-clause-going c =
    let w = c.requires.going in
    let told = rw c.from.ensures at c.store.ensures.2 in
    going_on _ _ _ w (Store _ _) c.requires.due _ c.store.ensures.0 told.0 told.1 _ (store_told _ _ _ w _ _ c.requires.due 0 _ told.2) refl refl refl refl refl refl

pub returns-clause-leads : goal.returns-clause-leads
returns-clause-leads c =
    let w = c.requires.going in
    let told = rw c.from.ensures at c.store.ensures.2 in
    leads_there _ _ _ w (Store _ _) c.requires.due _ c.store.ensures.0 told.0 told.1 _ (store_told _ _ _ w _ _ c.requires.due 0 _ told.2) refl refl refl refl refl refl c.store.ensures.3
