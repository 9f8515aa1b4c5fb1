use Rattle.partial_text.proofs.{Common.{[], ◌∷◌, codes, number_field, sym}, TextGiven.{tells_then, tells_more}}
use Rattle.partial_text.proofs.outcome_text.tell_call.Goals as goal

pub returns : goal.returns
returns g c =
    let called = c.args.called.now in
    let number = tells_then _ _ _ _ _ c.tell_field.ensures c.tell_number.ensures in
    let finish = tells_then _ _ _ _ _ number c.tell_finish.ensures in
    let steps = tells_more _ _ _ _ (codes " steps") (number_field called.steps) finish c.tell_field-2.ensures in
    let span = tells_more _ _ _ _ (codes " span") (number_field called.began) steps c.tell_field-3.ensures in
    let ended = tells_then _ _ _ _ _ span c.tell_optional.ensures in
    rw (sym c.from.ensures, sym c.from-2.ensures, sym c.ended.ensures) (tells_then _ _ _ _ (10 ∷ []) ended c.tell.ensures)
