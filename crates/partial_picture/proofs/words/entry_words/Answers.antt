use Rattle.partial_picture.proofs.{Common.{◌++◌, ◌∷◌, []}, Labels.{entry_is, made_of}}
use Rattle.partial_picture.proofs.words.entry_words.Goals as goal

pub returns : goal.returns
returns c = made_of (λ l. l ++ 10 ∷ []) c.format.result _ _ c.format.ensures.ok (entry_is c.args.place c.args.entry.now)
