use Rattle.partial_text.proofs.Common.{drop, answer_lines}
use Rattle.partial_text.specs.Inner.TextGiven.{TextGiven, GivesBytes, text_given}
use Rattle.partial_text.proofs.report_text.tell_answers.Given as goal

-- with the rest all is given
abbrev pub invariant-loop-number : goal.invariant-loop-number
invariant-loop-number g l = (end : TextGiven) → GivesBytes (text_given g.W.Write.contents l.text l.out) (answer_lines l.port l.number (drop l.number l.answers)) end →
    GivesBytes (text_given g.W.Write.contents l.initial.text l.initial.out) (answer_lines l.port 0 l.answers) end
