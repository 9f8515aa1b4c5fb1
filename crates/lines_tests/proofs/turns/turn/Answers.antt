use Rattle.lines_tests.proofs.Common.{◌≡◌, Option, Some, None, sym, ap, ◌∙◌, refl, MatchOption, Idle, advance, at_stage, reply_of, Turned, Stepped, Taken, Stayed}
use Rattle.partial_machine.specs.declared.stage.Reply.{Reply}
use Rattle.lines_tests.proofs.turns.turn.Goals as goal

pub returns-in-Some : goal.returns-in-Some
returns-in-Some c = Stepped c.in-Some.step (sym c.step.ensures ∙ c.in-Some.is) (c.answer.ensures.state ∙ ap (advance c.args.core.now) c.perform-answer.ensures.answer) c.perform-answer.ensures.words

pub returns-else-idle : goal.returns-else-idle
returns-else-idle c = by c.take.result c.take.ensures.reply c.take.ensures.state
  where
    by : (r : Option Reply) → r ≡ reply_of c.args.core.now → MatchOption r (c.take.new.self ≡ c.args.core.now) (λ _. c.take.new.self ≡ at_stage c.args.core.now Idle) →
        Turned c.args.core.now c.args.words.now c.take.new.self c.args.words.now
    by None is state = Stayed state refl
    by (Some r) is state = Taken r (sym is) state refl
