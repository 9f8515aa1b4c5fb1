use Rattle.partial_long_lived.proofs.{Common.{rules, refl, sym, ◌∙◌, inl, inr}, Asked.{port_there, put_asked}, Working.{put_away, put_clean, put_meets, put_won}}
use Rattle.partial_long_lived.proofs.clear.put_port.Goals as goal

pub compare_exchange-found-requires : goal.compare_exchange-found-requires
compare_exchange-found-requires c =
    let h = c.requires.held in
    (h.fits, port_there _ _ _ h c.args.port c.requires.inside, put_asked _ _ _ h c.args.arena c.args.port c.args.entering_word c.requires.may c.requires.bit c.requires.inside _ _ _ c.packed-here.ensures)

pub returns-then-found-entering_word-clause-cleared : goal.returns-then-found-entering_word-clause-cleared
returns-then-found-entering_word-clause-cleared c =
    let found = c.compare_exchange-found in
    (refl, put_won c.args.stand.now _ c.args.arena c.args.port c.args.entering_word found.result c.requires.may c.requires.bit found.ensures.2.2 c.if-found-entering_word.true)

pub returns-then-found-from-clause-cleared : goal.returns-then-found-from-clause-cleared
returns-then-found-from-clause-cleared c =
    let found = c.compare_exchange-found in (
      refl,
      put_away c.args.stand.now _ c.args.arena c.args.port c.args.entering_word found.result c.requires.may c.requires.bit found.ensures.2.2
          c.if-found-lt-ENTERING_BIT.true (λ same. c.if-found-from.true (same ∙ sym c.from.ensures)),
    )

pub returns-then-found-entering_word-clause-meets : goal.returns-then-found-entering_word-clause-meets
returns-then-found-entering_word-clause-meets c =
    let found = c.compare_exchange-found in
    put_clean c.args.stand.now (record c.args.stand.now { seat = found.new.seat }) c.args.arena c.args.port c.args.entering_word found.result c.requires.may c.requires.bit found.ensures.2.2 c.requires.searches (inl c.if-found-entering_word.true)

pub returns-then-found-from-clause-meets : goal.returns-then-found-from-clause-meets
returns-then-found-from-clause-meets c =
    let found = c.compare_exchange-found in
    put_clean c.args.stand.now (record c.args.stand.now { seat = found.new.seat }) c.args.arena c.args.port c.args.entering_word found.result c.requires.may c.requires.bit found.ensures.2.2 c.requires.searches
    (inr (c.if-found-lt-ENTERING_BIT.true, λ same. c.if-found-from.true (same ∙ sym c.from.ensures)))

pub returns-clause-meets : goal.returns-clause-meets
returns-clause-meets c =
    let found = c.compare_exchange-found in
    put_meets c.args.stand.now (record c.args.stand.now { seat = found.new.seat }) c.args.arena c.args.port c.args.entering_word found.result c.requires.may c.requires.bit found.ensures.2.2 c.requires.searches c.if-found-entering_word.false (search rules)
