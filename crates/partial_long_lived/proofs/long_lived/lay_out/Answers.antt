use Rattle.partial_long_lived.proofs.{Common.{rules, ◌≡◌, sym, ◌∙◌, ap, subst, About, Opening, OpensShape, pool_base}, Opens.opens, NewPorts.{is_opened, opens_as, same_opening}}
use Rattle.std.proofs.lemmas.Result.{IfOk-weaker}
use Rattle.partial_long_lived.proofs.long_lived.lay_out.Goals as goal

pub of_words-requires : goal.of_words-requires
of_words-requires c =
    let values : c.from.result ≡ c.args.initial.now = search rules in
    let o : Opening = record { values = c.from.result; first = c.from-2.result } in
    let same : o ≡ record { values = c.args.initial.now; first = pool_base c.args.shape.now.sizes } = same_opening o _ values (c.from-2.ensures ∙ c.pool_base.ensures) in
    let words = subst (OpensShape c.args.shape.now c.args.initial.now) (sym c.deref.ensures.value) c.in_ok-words.ensures in
    opens _ _ (opens_as c.args.shape.now o _ _ words same)

pub returns-clause-about : goal.returns-clause-about
returns-clause-about c =
    let values : c.from.result ≡ c.args.initial.now = search rules in
    let o : Opening = record { values = c.from.result; first = c.from-2.result } in
    let same : o ≡ record { values = c.args.initial.now; first = pool_base c.args.shape.now.sizes } = same_opening o _ values (c.from-2.ensures ∙ c.pool_base.ensures) in
    let s = c.args.shape.now in
    let with : Opening → About = λ o. record { sizes = s.sizes; opening = o; ports = s.ports; arenas = s.arenas; limit = s.limit; announces = s.announces } in
    IfOk-weaker c.of_words.result _ _ (λ r h. h.5 ∙ ap with same) c.of_words.ensures

pub returns-clause-opened : goal.returns-clause-opened
returns-clause-opened c =
    let values : c.from.result ≡ c.args.initial.now = search rules in
    let o : Opening = record { values = c.from.result; first = c.from-2.result } in
    let same : o ≡ record { values = c.args.initial.now; first = pool_base c.args.shape.now.sizes } = same_opening o _ values (c.from-2.ensures ∙ c.pool_base.ensures) in
    let s = c.args.shape.now in
    let words = subst (OpensShape s c.args.initial.now) (sym c.deref.ensures.value) c.in_ok-words.ensures in
    IfOk-weaker c.of_words.result _ _ (λ r h. is_opened _ _ _ _ _ _ _ (opens_as s o _ _ words same) h.5 h.0 h.1 h.2 h.4) c.of_words.ensures

pub returns-clause-steps : goal.returns-clause-steps
returns-clause-steps c = IfOk-weaker c.of_words.result _ _ (λ r h. h.6) c.of_words.ensures
