use Rattle.partial_text.proofs.Common.{drop, flat_map, call_line, calls_in_order}
use Rattle.partial_text.specs.Inner.TextGiven.{TextGiven, GivesBytes, text_given}
use Rattle.partial_text.proofs.outcome_text.tell_calls_of_ports.Given as goal

-- with the rest all is given
abbrev pub invariant-loop-calls : goal.invariant-loop-calls
invariant-loop-calls g l = (end : TextGiven) → GivesBytes (text_given g.W.Write.contents l.text l.out) (flat_map call_line (calls_in_order (drop l.calls-index l.ports))) end →
    GivesBytes (text_given g.W.Write.contents l.initial.text l.initial.out) (flat_map call_line (calls_in_order l.ports)) end
