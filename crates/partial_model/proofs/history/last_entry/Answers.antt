use Rattle.partial_model.proofs.{Common.{◌≡◌, take, sym, ap, ◌∙◌, arith, last_entry}, HistoryLemmas.{last_entry-found, last_entry-passed, last_entry-nil}}
use Rattle.partial_model.proofs.history.last_entry.Goals as goal

pub returns-then-entry-component : goal.returns-then-entry-component
returns-then-entry-component c =
    sym (c.loop-index.invariant ∙ last_entry-found c.args.history.now c.loop-index.index c.args.component _ c.loop-index-test.true (omega arith) c.if-entry-component.true)

pub loop-index-preserved : goal.loop-index-preserved
loop-index-preserved c =
    c.loop-index.invariant ∙ last_entry-passed c.args.history.now c.loop-index.index c.args.component _ c.loop-index-test.true (omega arith) c.if-entry-component.false

pub returns : goal.returns
returns c =
    let none : c.loop-index.index ≡ 0 = omega arith in
    sym (c.loop-index.invariant ∙ ap (λ n. last_entry c.args.component (take n c.args.history.now)) none ∙ last_entry-nil c.args.component)
