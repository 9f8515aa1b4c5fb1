use Rattle.std.proofs.Common.{tests}
use Rattle.partial_memory.proofs.{Common.{rules, ◌≡◌, ap, sym, ◌∙◌, subst, List, ℕ, length, AreOpeningWords}, Opens.opens}
use Rattle.partial_memory.proofs.memory.Memory.open.Goals as goal

pub of_words-requires : goal.of_words-requires
of_words-requires c =
    let values : c.from.result ≡ c.args.initial.now = search rules in
    let first = c.from-2.ensures ∙ c.pool_base.ensures in
    let is : c.deref.result.now ≡ c.in_ok-words.words.items = search rules in
    let words : AreOpeningWords c.args.sizes c.from.result c.deref.result.now =
    subst (λ (l : List ℕ). AreOpeningWords c.args.sizes l c.deref.result.now) (sym values) (subst (AreOpeningWords c.args.sizes c.args.initial.now) (sym is) c.in_ok-words.ensures) in
    opens _ _ (record { sizes = search rules; values = ap length values ∙ c.requires; stamps = first; words = words }) (search rules)

pub returns-clause-ports : goal.returns-clause-ports
returns-clause-ports c = search (tests, rules)
