use Rattle.partial_text.proofs.Common.{drop, flat_map, call_line}
use Rattle.partial_text.specs.Inner.TextGiven.{TextGiven, GivesBytes, text_given}
use Rattle.partial_text.proofs.outcome_text.tell_calls.Given as goal

-- with the rest all is given
abbrev pub invariant-loop-called : goal.invariant-loop-called
invariant-loop-called g l = (end : TextGiven) → GivesBytes (text_given g.W.Write.contents l.text l.out) (flat_map call_line (drop l.called-index l.calls)) end →
    GivesBytes (text_given g.W.Write.contents l.initial.text l.initial.out) (flat_map call_line l.calls) end
