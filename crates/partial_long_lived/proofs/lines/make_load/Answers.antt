use Rattle.std.proofs.Common.{rules, tests}
use Rattle.partial_long_lived.proofs.{Common.{refl, arith, Load}, Straight.{going_on, leads_there, load_asked, load_told, small_word, step_there}}
use Rattle.partial_long_lived.proofs.lines.make_load.Goals as goal

pub overflow_add-at : goal.overflow_add-at
overflow_add-at c = omega (arith, small_word _ _ _ c.requires.going c.args.word (Load c.args.word) c.requires.due refl)

pub load-found-requires : goal.load-found-requires
load-found-requires c =
    let w = c.requires.going in
    (w.held.fits, step_there _ _ _ w (Load c.args.word) c.requires.due, load_asked _ _ _ w c.args.word c.requires.due _ _)

pub returns-then-is_component-clause-going : goal.returns-then-is_component-clause-going
returns-then-is_component-clause-going c =
    let w = c.requires.going in
    let told = c.load-found.ensures.2 in
    going_on _ _ _ w (Load c.args.word) c.requires.due _ c.load-found.ensures.0 told.0 told.1 _ (load_told _ _ _ w c.args.word c.requires.due c.load-found.result _ told.2) refl refl refl refl refl refl

pub returns-then-is_component-clause-leads : goal.returns-then-is_component-clause-leads
returns-then-is_component-clause-leads c =
    let w = c.requires.going in
    let told = c.load-found.ensures.2 in
    leads_there _ _ _ w (Load c.args.word) c.requires.due _ c.load-found.ensures.0 told.0 told.1 _ (load_told _ _ _ w c.args.word c.requires.due c.load-found.result _ told.2) refl refl refl refl refl refl c.load-found.ensures.3

pub returns-else-is_component-clause-going : goal.returns-else-is_component-clause-going
returns-else-is_component-clause-going c =
    let w = c.requires.going in
    let told = c.load-found.ensures.2 in
    going_on _ _ _ w (Load c.args.word) c.requires.due _ c.load-found.ensures.0 told.0 told.1 _ (load_told _ _ _ w c.args.word c.requires.due c.load-found.result _ told.2) refl refl refl refl refl refl

pub returns-else-is_component-clause-leads : goal.returns-else-is_component-clause-leads
returns-else-is_component-clause-leads c =
    let w = c.requires.going in
    let told = c.load-found.ensures.2 in
    leads_there _ _ _ w (Load c.args.word) c.requires.due _ c.load-found.ensures.0 told.0 told.1 _ (load_told _ _ _ w c.args.word c.requires.due c.load-found.result _ told.2) refl refl refl refl refl refl c.load-found.ensures.3

pub returns-then-is_component-clause-machine : goal.returns-then-is_component-clause-machine
returns-then-is_component-clause-machine c = search (tests, rules)
