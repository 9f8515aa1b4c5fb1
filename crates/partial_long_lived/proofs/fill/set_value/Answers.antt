use Rattle.partial_long_lived.proofs.{Common.{ap, ◌∙◌, arith, base, initial_record, value_word, About, Plan, SeatedPort, SetsValue, refl}, Asked.{find_set_asked, set_other_asked, set_there, set_value_asked, value_word_is}, Working.{found_other, found_set, set_kept, set_value_works}}
use Rattle.partial_long_lived.proofs.fill.set_value.Goals as goal

pub load-requires : goal.load-requires
load-requires g c =
    let h = c.requires.held in
    let inside = c.requires.within in
    let word = value_word_is _ _ _ h c.args.arena c.args.component _ _ _ _ c.set_word-at.ensures c.value_word.ensures c.from-record.ensures c.initial_record.ensures in (
      h.fits,
      set_there _ _ _ h c.args.arena (value_word (initial_record c.args.words.now.key.sizes c.args.component)) _ c.requires.inside (omega (arith, inside)) word,
      find_set_asked _ _ _ h SetsValue c.args.value _ c.requires.wanted c.requires.works.stands _ _ _
          (set_value_asked _ _ _ h c.args.arena c.args.component c.args.value c.requires.works c.requires.sealed inside c.requires.found _ _ _ word),
    )

pub store-requires : goal.store-requires
store-requires g c =
    let h = c.requires.held in
    let inside = c.requires.within in
    let word = value_word_is _ _ _ h c.args.arena c.args.component _ _ _ _ c.set_word-at.ensures c.value_word.ensures c.from-record.ensures c.initial_record.ensures in (
      c.load.ensures.0 ∙ h.fits,
      set_there _ _ _ h c.args.arena (value_word (initial_record c.args.words.now.key.sizes c.args.component)) _ c.requires.inside (omega (arith, inside)) word,
      set_other_asked _ _ _ h SetsValue c.args.value _ c.requires.wanted _ _ c.load.ensures.2 c.if-load-value.true _ _ _
          (set_value_asked _ _ _ h c.args.arena c.args.component c.args.value c.requires.works c.requires.sealed inside c.requires.found _ _ _ word),
    )

pub returns-then-load-value-clause-works : goal.returns-then-load-value-clause-works
returns-then-load-value-clause-works g c =
    let same = found_other SetsValue c.args.value _ c.requires.wanted _ _ _ c.load.ensures.2.2 c.if-load-value.true in
    set_value_works _ _ c.args.arena _ _ c.args.value (set_kept c.args.stand.now (record c.args.stand.now { seat = c.load.new.seat }) _ _ _ (ap (λ (x : SeatedPort). x.port.control) same) c.requires.works) c.args.words.now.key.sizes
    (ap (λ (x : SeatedPort). x.about.sizes) same ∙ ap (λ (a : About). a.sizes) c.requires.held.own) c.args.component c.requires.within refl c.store.ensures.2.2

pub returns-else-load-value-clause-works : goal.returns-else-load-value-clause-works
returns-else-load-value-clause-works g c =
    set_value_works c.args.stand.now _ c.args.arena _ _ c.load.result c.requires.works c.args.words.now.key.sizes (ap (λ (a : About). a.sizes) c.requires.held.own) c.args.component c.requires.within refl
    (found_set SetsValue c.args.value _ c.requires.wanted _ _ _ c.load.ensures.2.2 c.if-load-value.false)

pub set_word-at-requires-clause-first : goal.set_word-at-requires-clause-first
set_word-at-requires-clause-first g c = c.requires.first ∙ ap (λ (e : Plan). base e c.args.arena) c.requires.held.shape
