use Rattle.partial_long_lived.proofs.{Common.{ap, ◌∙◌, base, Plan, SeatedPort, SetsNext, port_at}, Asked.{find_set_asked, set_asked, set_other_asked, set_there}, Working.{found_other, found_set, right_low, set_kept, set_works}}
use Rattle.partial_long_lived.proofs.fill.set_stamp.Goals as goal

pub load-requires : goal.load-requires
load-requires g c =
    let h = c.requires.held in
    let word = c.set_word-at.ensures in (
      h.fits,
      set_there _ _ _ h c.args.arena c.args.number _ c.requires.inside (right_low c.args.words.now.key (port_at c.args.stand.now) c.args.stamp c.args.number h.own c.requires.right) word,
      find_set_asked _ _ _ h SetsNext c.args.stamp _ c.requires.wanted c.requires.works.stands _ _ _
          (set_asked _ _ _ h c.args.arena c.args.number c.args.stamp c.requires.works c.requires.sealed c.requires.right _ _ _ word),
    )

pub store-requires : goal.store-requires
store-requires g c =
    let h = c.requires.held in
    let word = c.set_word-at.ensures in (
      c.load.ensures.0 ∙ h.fits,
      set_there _ _ _ h c.args.arena c.args.number _ c.requires.inside (right_low c.args.words.now.key (port_at c.args.stand.now) c.args.stamp c.args.number h.own c.requires.right) word,
      set_other_asked _ _ _ h SetsNext c.args.stamp _ c.requires.wanted _ _ c.load.ensures.2 c.if-load-stamp.true _ _ _
          (set_asked _ _ _ h c.args.arena c.args.number c.args.stamp c.requires.works c.requires.sealed c.requires.right _ _ _ word),
    )

pub returns-then-load-stamp-clause-works : goal.returns-then-load-stamp-clause-works
returns-then-load-stamp-clause-works g c =
    let same = found_other SetsNext c.args.stamp _ c.requires.wanted _ _ _ c.load.ensures.2.2 c.if-load-stamp.true in
    set_works _ _ c.args.arena _ c.args.number c.args.stamp (set_kept c.args.stand.now (record c.args.stand.now { seat = c.load.new.seat }) _ _ _ (ap (λ (x : SeatedPort). x.port.control) same) c.requires.works) c.store.ensures.2.2

pub returns-else-load-stamp-clause-works : goal.returns-else-load-stamp-clause-works
returns-else-load-stamp-clause-works g c =
    set_works c.args.stand.now _ c.args.arena _ c.args.number c.load.result c.requires.works (found_set SetsNext c.args.stamp _ c.requires.wanted _ _ _ c.load.ensures.2.2 c.if-load-stamp.false)

pub set_word-at-requires-clause-first : goal.set_word-at-requires-clause-first
set_word-at-requires-clause-first g c = c.requires.first ∙ ap (λ (e : Plan). base e c.args.arena) c.requires.held.shape
