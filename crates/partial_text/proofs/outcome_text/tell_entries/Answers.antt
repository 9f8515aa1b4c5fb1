use Rattle.std.proofs.Common.{rules}
use Rattle.std.proofs.lemmas.List.{drop_more}
use Rattle.partial_model.specs.declared.history.Applied.{Applied}
use Rattle.partial_text.proofs.{Common.{◌<◌, length, sym, subst, List, entry_lines}, TextGiven.tells_then}
use Rattle.partial_text.specs.Inner.TextGiven.{GivesBytes, text_given}
use Rattle.partial_text.proofs.outcome_text.tell_entries.Goals as goal

pub loop-place-preserved : goal.loop-place-preserved
loop-place-preserved g c = λ end rest.
    let xs = c.args.history.now in
    let k = c.loop-place.place in
    let inside : k < length xs = search rules in
    let more = drop_more xs k (record { port = 0; component = 0; value = 0; stamp = 0 }) inside in
    let now = text_given g.W.Write.contents c.loop-place.text c.loop-place.out in
    c.loop-place.invariant end (subst (λ (left : List Applied). GivesBytes now (entry_lines k left) end) (sym more) (tells_then _ _ _ _ _ c.tell_entry.ensures rest))
