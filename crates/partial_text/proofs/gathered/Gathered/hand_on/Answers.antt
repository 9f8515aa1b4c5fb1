use Rattle.std.proofs.Common.{rules}
use Rattle.partial_text.proofs.{Common.{◌≡◌, sym, ap, subst, ◌∙◌, Bool, List, ℕ, []}, TextGiven.{tells_handed_on}}
use Rattle.partial_text.specs.Inner.TextGiven.{GivesBytes, text_given}
use Rattle.partial_text.proofs.gathered.Gathered.hand_on.Goals as goal

pub returns-clause-told : goal.returns-clause-told
returns-clause-told g c =
    let contents = g.W.Write.contents in
    let empty : c.clear.new.self.items ≡ [] = search rules in
    let told : GivesBytes (text_given contents [] c.args.writer.now) c.args.self.now (text_given contents [] c.put.new.writer) = search rules in
    subst (λ (xs : List ℕ). GivesBytes (text_given contents c.args.self.now c.args.writer.now) [] (text_given contents xs c.put.new.writer)) (sym empty)
    (tells_handed_on c.args.self.now (contents c.args.writer.now.inner) c.args.writer.now.failed (text_given contents [] c.put.new.writer) told
    (λ h. ap (text_given contents []) (c.put.ensures.stopped h) ∙ ap (λ (b : Bool). record (text_given contents [] c.args.writer.now) { failed = b }) h))
