use Rattle.partial_long_lived.proofs.{Common.{ℕ, List, length, sym, subst, ◌∙◌, MayNoteScan, NotesScan, port_at}, DoubleCollect.{may_together, together_named, together_stayed}}
use Rattle.partial_long_lived.proofs.double_collect.confirm.Goals as goal

pub load_noting-requires-clause-may : goal.load_noting-requires-clause-may
load_noting-requires-clause-may g c =
    let r = c.requires in
    let l = c.load_values.ensures in
    subst (λ n. MayNoteScan g.G.Together.which n (port_at c.load_values.new.stand)) (sym r.entries)
    (subst (λ (js : List ℕ). MayNoteScan js (length (port_at c.args.stand.now).port.part.seen) (port_at c.load_values.new.stand)) (sym r.which)
    (may_together _ _ _ _ _ r.held r.idle c.args.which.now c.args.kept.now r.inside r.some r.collected c.collects_again.ensures.glanced l.kept l.same))

pub returns-clause-stayed : goal.returns-clause-stayed
returns-clause-stayed g c =
    let r = c.requires in
    let l = c.load_values.ensures in
    let n = c.load_noting.ensures in
    together_stayed _ _ _ _ _ r.held r.idle c.args.which.now c.args.kept.now r.inside r.some r.collected c.collects_again.ensures.glanced l.kept l.same _ n.kept n.noted.0 _
    (subst (λ m. NotesScan c.args.which.now m n.noted.0 (port_at c.load_values.new.stand) c.load_noting.result (port_at c.load_noting.new.stand)) r.entries
    (subst (λ (js : List ℕ). NotesScan js g.G.Together.entries n.noted.0 (port_at c.load_values.new.stand) c.load_noting.result (port_at c.load_noting.new.stand)) r.which n.noted.1))

pub returns-clause-scanned : goal.returns-clause-scanned
returns-clause-scanned g c = λ made.
    let r = c.requires in
    let l = c.load_values.ensures in
    let n = c.load_noting.ensures in
    together_named _ _ _ _ _ r.held r.idle c.args.which.now c.args.kept.now r.inside r.some r.collected c.collects_again.ensures.glanced l.kept l.same _ n.kept n.noted.0 _
    (subst (λ m. NotesScan c.args.which.now m n.noted.0 (port_at c.load_values.new.stand) c.load_noting.result (port_at c.load_noting.new.stand)) r.entries
    (subst (λ (js : List ℕ). NotesScan js g.G.Together.entries n.noted.0 (port_at c.load_values.new.stand) c.load_noting.result (port_at c.load_noting.new.stand)) r.which n.noted.1))
    _ (c.collects_again.ensures.collected c.if-not-collects_again.false) l.values (l.lengths ∙ r.lengths) n.value r.time
