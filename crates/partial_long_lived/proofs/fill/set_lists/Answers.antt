use Rattle.partial_long_lived.proofs.{Common.{◌<◌, ◌+◌, ◌∙◌, ap, arith, base, first_free, About, Plan}, Asked.{set_lists_asked, set_there}, Working.set_lists_works}
use Rattle.partial_long_lived.proofs.fill.set_lists.Goals as goal

pub store-requires : goal.store-requires
store-requires c =
    let h = c.requires.held in
    let word = c.set_word-at.ensures in
    let last = c.requires.last in
    let low : c.args.number < first_free c.args.words.now.key.sizes + c.args.words.now.key.sizes.m = omega (arith, last) in (
      h.fits,
      set_there _ _ _ h c.args.arena c.args.number _ c.requires.inside low word,
      set_lists_asked _ _ _ h c.args.arena c.args.number c.requires.works c.requires.sealed last c.args.value c.requires.right _ _ _ word,
    )

pub returns-clause-works : goal.returns-clause-works
returns-clause-works c =
    set_lists_works c.args.stand.now _ c.args.arena _ c.args.number c.args.value c.requires.works c.args.words.now.key.sizes (ap (λ (a : About). a.sizes) c.requires.held.own) c.store.ensures.2.2

pub set_word-at-requires-clause-first : goal.set_word-at-requires-clause-first
set_word-at-requires-clause-first c = c.requires.first ∙ ap (λ (e : Plan). base e c.args.arena) c.requires.held.shape

pub returns-clause-steps : goal.returns-clause-steps
returns-clause-steps c = let one = c.store.ensures.3 in omega (arith, one)
