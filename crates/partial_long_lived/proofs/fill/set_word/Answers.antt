use Rattle.std.proofs.Common.{arith}
use Rattle.partial_long_lived.proofs.{Common.{ap, ◌∙◌, base, Plan, port_at}, Asked.{set_asked, set_there}, Working.{right_low, set_works}}
use Rattle.partial_long_lived.proofs.fill.set_word.Goals as goal

pub store-requires : goal.store-requires
store-requires c =
    let h = c.requires.held in
    let word = c.set_word-at.ensures in (
      h.fits,
      set_there _ _ _ h c.args.arena c.args.number _ c.requires.inside (right_low c.args.words.now.key (port_at c.args.stand.now) c.args.value c.args.number h.own c.requires.right) word,
      set_asked _ _ _ h c.args.arena c.args.number c.args.value c.requires.works c.requires.sealed c.requires.right _ _ _ word,
    )

pub returns-clause-works : goal.returns-clause-works
returns-clause-works c = set_works c.args.stand.now _ c.args.arena _ c.args.number c.args.value c.requires.works c.store.ensures.2.2

pub set_word-at-requires-clause-first : goal.set_word-at-requires-clause-first
set_word-at-requires-clause-first c = c.requires.first ∙ ap (λ (e : Plan). base e c.args.arena) c.requires.held.shape

pub returns-clause-steps : goal.returns-clause-steps
returns-clause-steps c = let one = c.store.ensures.3 in omega (arith, one)
