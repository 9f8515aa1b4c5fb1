use Rattle.partial_text.proofs.Common.{drop, entry_lines}
use Rattle.partial_text.specs.Inner.TextGiven.{TextGiven, GivesBytes, text_given}
use Rattle.partial_text.proofs.outcome_text.tell_entries.Given as goal

-- with the rest all is given
abbrev pub invariant-loop-place : goal.invariant-loop-place
invariant-loop-place g l = (end : TextGiven) → GivesBytes (text_given g.W.Write.contents l.text l.out) (entry_lines l.place (drop l.place l.history)) end →
    GivesBytes (text_given g.W.Write.contents l.initial.text l.initial.out) (entry_lines 0 l.history) end
