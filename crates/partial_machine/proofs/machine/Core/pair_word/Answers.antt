use Rattle.partial_machine.proofs.{Common.{◌∙◌, slice_index}, Pairs.{index_word, value_word}}
use Rattle.partial_machine.proofs.machine.Core.pair_word.Goals as goal

pub returns-then-k-eq0 : goal.returns-then-k-eq0
returns-then-k-eq0 c =
    rw (← c.self.view_is) (rw c.indices.ensures at c.from.ensures ∙ index_word (λ j. slice_index c.self.inside.rows.values j) c.self.inside.found.indices c.args.k
    (rw (← c.self.view_is) at c.requires) c.if-k-eq0.true)

pub returns-else-k-eq0 : goal.returns-else-k-eq0
returns-else-k-eq0 c =
    rw (← c.self.view_is) (rw c.indices.ensures at c.value.ensures ∙ value_word (λ j. slice_index c.self.inside.rows.values j) c.self.inside.found.indices c.args.k
    (rw (← c.self.view_is) at c.requires) c.if-k-eq0.false)
