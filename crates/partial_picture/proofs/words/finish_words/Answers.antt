use Rattle.partial_picture.proofs.{Common.◌∷◌, Labels.{applied_is, changed_is, lost_is, made_of, refused_is, shown_is}}
use Rattle.partial_picture.proofs.words.finish_words.Goals as goal

pub returns-in-Applied : goal.returns-in-Applied
returns-in-Applied c = made_of (λ l. 32 ∷ l) c.format.result _ _ c.format.ensures.ok (applied_is _ _ _ _ c.in-Some.is c.in-Applied.is c.place_of-place.ensures)

pub returns-in-Lost : goal.returns-in-Lost
returns-in-Lost c = made_of (λ l. 32 ∷ l) c.format-in-Lost.result _ _ c.format-in-Lost.ensures.ok (lost_is _ _ _ _ c.in-Some.is c.in-Lost.is c.place_of-place.ensures)

pub returns-in-Changed : goal.returns-in-Changed
returns-in-Changed c = made_of (λ l. 32 ∷ l) c.format-in-Changed.result _ _ c.format-in-Changed.ensures.ok (changed_is _ _ _ _ c.in-Some.is c.in-Changed.is c.place_of-place.ensures)

pub returns-in-Read : goal.returns-in-Read
returns-in-Read c = made_of (λ l. 32 ∷ l) c.format-in-Read.result _ _ c.format-in-Read.ensures.ok (shown_is _ _ _ _ _ c.in-Some.is c.in-Read.is c.place_of-place.ensures)

pub returns-in-Refused : goal.returns-in-Refused
returns-in-Refused c = made_of (λ l. 32 ∷ l) c.format-in-Refused.result _ _ c.format-in-Refused.ensures.ok
    (refused_is _ _ _ _ _ c.in-Some.is c.in-Refused.is c.code.ensures c.place_of-place.ensures)
