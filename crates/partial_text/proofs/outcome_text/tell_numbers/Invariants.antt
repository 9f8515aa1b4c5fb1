use Rattle.partial_text.proofs.Common.{drop, flat_map, number_field}
use Rattle.partial_text.specs.Inner.TextGiven.{TextGiven, GivesBytes, text_given}
use Rattle.partial_text.proofs.outcome_text.tell_numbers.Given as goal

-- with the rest all is given
abbrev pub invariant-loop-number : goal.invariant-loop-number
invariant-loop-number g l = (end : TextGiven) → GivesBytes (text_given g.W.Write.contents l.text l.out) (flat_map number_field (drop l.number-index l.numbers)) end →
    GivesBytes (text_given g.W.Write.contents l.initial.text l.initial.out) (flat_map number_field l.numbers) end
