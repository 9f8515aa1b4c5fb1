use Rattle.partial_picture.proofs.Labels.{made_of, read_is, update_if_is, update_is}
use Rattle.partial_picture.proofs.words.call_words.Goals as goal

pub returns-in-Update : goal.returns-in-Update
returns-in-Update c = made_of (λ l. l) c.format.result _ _ c.format.ensures.ok (update_is _ _ _ c.in-Update.is)

pub returns-in-Read : goal.returns-in-Read
returns-in-Read c = made_of (λ l. l) c.format-in-Read.result _ _ c.format-in-Read.ensures.ok (read_is _ _ c.in-Read.is)

pub returns-in-UpdateIf : goal.returns-in-UpdateIf
returns-in-UpdateIf c = made_of (λ l. l) c.format-in-UpdateIf.result _ _ c.format-in-UpdateIf.ensures.ok (update_if_is _ _ _ _ c.in-UpdateIf.is)
