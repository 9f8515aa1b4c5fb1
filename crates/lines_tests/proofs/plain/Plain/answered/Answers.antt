use Rattle.lines_tests.proofs.{Common.{ℕ, ◌<◌, List, length, sym, ap, subst, ◌∙◌, arith, with_items_is, answer_of, word_of, words_after, CoreState, advance, IsPossible, IsPlain}, Turning.stepped}
use Rattle.lines_tests.proofs.plain.Plain.answered.Goals as goal

pub perform-answer-requires : goal.perform-answer-requires
perform-answer-requires c =
    subst (λ (ws : List ℕ). word_of c.args.step < length ws) (sym c.deref_mut.ensures.value) (stepped _ _ _ _ c.requires.going c.args.step c.requires.due).within

pub answer-requires : goal.answer-requires
answer-requires c =
    let is = c.perform-answer.ensures.answer ∙ ap (λ (ws : List ℕ). answer_of ws c.args.step) c.deref_mut.ensures.value in
    subst (IsPossible c.args.self.now.beside) (sym is) (stepped _ _ _ _ c.requires.going c.args.step c.requires.due).possible

pub returns-clause-possible : goal.returns-clause-possible
returns-clause-possible c =
    let is = c.perform-answer.ensures.answer ∙ ap (λ (ws : List ℕ). answer_of ws c.args.step) c.deref_mut.ensures.value in
    subst (IsPossible c.args.self.now.beside) (sym is) (stepped _ _ _ _ c.requires.going c.args.step c.requires.due).possible

pub returns-clause-going : goal.returns-clause-going
returns-clause-going c =
    let was = c.args.self.now.words in
    let kept = with_items_is was c.perform-answer.new.words (let long = c.perform-answer.auto.words in let front = ap length c.deref_mut.ensures.value in omega (arith, long, front, was.ok.0)) in
    let words = kept ∙ c.perform-answer.ensures.words ∙ ap (λ (ws : List ℕ). words_after ws c.args.step) c.deref_mut.ensures.value in
    let is = c.answer.ensures.state ∙ ap (advance c.args.self.now.beside) (c.perform-answer.ensures.answer ∙ ap (λ (ws : List ℕ). answer_of ws c.args.step) c.deref_mut.ensures.value) in
    subst (λ (ws : List ℕ). IsPlain ws c.answer.new.self c.args.self.now.left c.args.self.now.right) (sym words)
    (subst (λ (d : CoreState). IsPlain (words_after was.items c.args.step) d c.args.self.now.left c.args.self.now.right) (sym is) (stepped _ _ _ _ c.requires.going c.args.step c.requires.due).going)
