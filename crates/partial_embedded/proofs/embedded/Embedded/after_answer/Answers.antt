use Rattle.partial_embedded.proofs.Common.{sym, ap, ◌∙◌, EmbeddedState, advance_view_at, buffers}
use Rattle.partial_embedded.proofs.embedded.Embedded.after_answer.Goals as goal

pub returns-in-Value : goal.returns-in-Value
returns-in-Value c =
    c.after_value.ensures c.args.last.now c.args.changed.now
    ∙ sym (ap (λ t. advance_view_at c.args.indices.now (c.args.self.now, buffers c.args.last.now c.args.changed.now c.args.values.now) t c.args.x)
    (ap (λ (e : EmbeddedState). e.stage) (sym c.self.view_is) ∙ c.in-Value.is))
