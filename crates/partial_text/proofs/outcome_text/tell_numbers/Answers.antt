use Rattle.std.proofs.Common.{rules}
use Rattle.std.proofs.lemmas.List.{drop_more}
use Rattle.partial_text.proofs.{Common.{◌<◌, length, sym, subst, List, ℕ, flat_map, number_field}, TextGiven.tells_then}
use Rattle.partial_text.specs.Inner.TextGiven.{GivesBytes, text_given}
use Rattle.partial_text.proofs.outcome_text.tell_numbers.Goals as goal

pub loop-number-preserved : goal.loop-number-preserved
loop-number-preserved g c = λ end rest.
    let xs = c.args.numbers.now in
    let k = c.loop-number.number-index in
    let inside : k < length xs = search rules in
    let more = drop_more xs k 0 inside in
    let now = text_given g.W.Write.contents c.loop-number.text c.loop-number.out in
    c.loop-number.invariant end (subst (λ (left : List ℕ). GivesBytes now (flat_map number_field left) end) (sym more) (tells_then _ _ _ _ _ c.tell_number.ensures rest))
