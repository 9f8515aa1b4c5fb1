use Rattle.partial_text.proofs.{Common.{[], ◌∷◌, codes, number_field, sym}, TextGiven.{tells_then, tells_more}}
use Rattle.partial_text.proofs.outcome_text.tell_entry.Goals as goal

pub returns : goal.returns
returns g c =
    let e = c.args.entry.now in
    let port = tells_more _ _ _ _ (codes " port") (number_field c.from.result) c.tell_field.ensures c.tell_field-2.ensures in
    let component = tells_more _ _ _ _ (codes " component") (number_field c.from-2.result) port c.tell_field-3.ensures in
    let value = tells_more _ _ _ _ (codes " value") (number_field e.value) component c.tell_field-4.ensures in
    let stamp = tells_more _ _ _ _ (codes " stamp") (number_field e.stamp) value c.tell_field-5.ensures in
    rw (sym c.from.ensures, sym c.from-2.ensures) (tells_then _ _ _ _ (10 ∷ []) stamp c.tell.ensures)
