use Rattle.partial_text.proofs.Common.{drop, port_lines}
use Rattle.partial_text.specs.Inner.TextGiven.{TextGiven, GivesBytes, text_given}
use Rattle.partial_text.proofs.report_text.tell_ports.Given as goal

-- with the rest all is given
abbrev pub invariant-loop-port : goal.invariant-loop-port
invariant-loop-port g l = (end : TextGiven) → GivesBytes (text_given g.W.Write.contents l.text l.out) (port_lines l.port (drop l.port l.ports)) end →
    GivesBytes (text_given g.W.Write.contents l.initial.text l.initial.out) (port_lines 0 l.ports) end
