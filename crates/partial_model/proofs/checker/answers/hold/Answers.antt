use Rattle.partial_model.proofs.{Common.{ℕ, ◌≡◌, ◌≢◌, ◌==◌, false, ◌&&◌, List, [], ◌∷◌, length, take, refl, sym, ap, ◌∙◌, arith, value_of, hold}, StampLaws.and_false}
use Rattle.partial_model.proofs.checker.answers.hold.Goals as goal

-- lists of two lengths hold no values
hold-lengths : (value : ℕ → ℕ) (js vs : List ℕ) → length js ≢ length vs → hold value js vs ≡ false
hold-lengths value [] [] other = absurd (other refl)
hold-lengths value [] (v ∷ vs) other = refl
hold-lengths value (j ∷ js) [] other = refl
hold-lengths value (j ∷ js) (v ∷ vs) other = ap (λ b. (value j == v) && b) (hold-lengths value js vs (λ same. other (omega arith))) ∙ and_false (value j == v)

pub returns-then-components-values : goal.returns-then-components-values
returns-then-components-values c = sym (hold-lengths (value_of c.args.opening.now (take c.args.prefix c.args.history.now)) c.args.components.now c.args.values.now c.if-components-values.true)
