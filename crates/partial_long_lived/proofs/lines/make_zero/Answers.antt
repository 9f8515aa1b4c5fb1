use Rattle.partial_long_lived.proofs.{Common.{refl, Store}, Straight.{going_on, leads_after, leads_there, other_told, step_there, still_going, zero_asked, zero_told}}
use Rattle.partial_long_lived.proofs.lines.make_zero.Goals as goal

pub load-found-requires : goal.load-found-requires
load-found-requires c =
    let w = c.requires.going in
    rw c.from.ensures (w.held.fits, step_there _ _ _ w (Store _ 0) c.requires.due, zero_asked _ _ _ w _ c.requires.due _ _)

pub returns-then-found-eq0-clause-going : goal.returns-then-found-eq0-clause-going
returns-then-found-eq0-clause-going c =
    let w = c.requires.going in
    let told = rw c.from.ensures at c.load-found.ensures.2 in
    going_on _ _ _ w (Store _ 0) c.requires.due _ c.load-found.ensures.0 told.0 told.1 _ (zero_told _ _ _ w _ c.requires.due _ _ told.2 c.if-found-eq0.true) refl refl refl refl refl refl

pub returns-then-found-eq0-clause-leads : goal.returns-then-found-eq0-clause-leads
returns-then-found-eq0-clause-leads c =
    let w = c.requires.going in
    let told = rw c.from.ensures at c.load-found.ensures.2 in
    leads_there _ _ _ w (Store _ 0) c.requires.due _ c.load-found.ensures.0 told.0 told.1 _ (zero_told _ _ _ w _ c.requires.due _ _ told.2 c.if-found-eq0.true) refl refl refl refl refl refl c.load-found.ensures.3

pub make_store-requires-clause-going : goal.make_store-requires-clause-going
make_store-requires-clause-going c =
    let w = c.requires.going in
    let told = rw c.from.ensures at c.load-found.ensures.2 in
    still_going _ _ _ w _ c.load-found.ensures.0 told.0 told.1 (other_told _ _ _ w _ _ _ told.2 c.if-found-eq0.false) refl refl refl refl refl refl

pub returns-clause-leads : goal.returns-clause-leads
returns-clause-leads c =
    let w = c.requires.going in
    let told = rw c.from.ensures at c.load-found.ensures.2 in
    leads_after _ _ _ w _ c.load-found.ensures.0 told.0 told.1 (other_told _ _ _ w _ _ _ told.2 c.if-found-eq0.false) refl refl refl refl refl refl
    c.load-found.ensures.3 c.requires.unviewed _ c.make_store.ensures.leads c.make_store.ensures.machine c.make_store.ensures.possible c.make_store.ensures.steps
