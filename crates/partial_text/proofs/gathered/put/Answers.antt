use Rattle.std.proofs.Common.{rules}
use Rattle.partial_text.proofs.{Common.{◌≡◌, sym, subst, Bool, [], true, false}, TextGiven.{tells_put, tells_unwritten}}
use Rattle.partial_text.specs.Inner.TextGiven.{GivesBytes, text_given}
use Rattle.partial_text.proofs.gathered.put.Goals as goal

pub returns-then-not-failed-clause-told : goal.returns-then-not-failed-clause-told
returns-then-not-failed-clause-told g c =
    let contents = g.W.Write.contents in
    let w = c.write_text-kept_by_the_device in
    let before = λ (b : Bool). record (text_given contents [] c.args.writer.now) { failed = b } in
    let clean : c.args.writer.now.failed ≡ false = search rules in
    subst (λ (b : Bool). GivesBytes (before b) c.args.bytes.now (text_given contents [] w.new.writer)) (sym clean)
    (tells_put c.args.bytes.now (contents c.args.writer.now.inner) (contents w.new.writer.inner) w.new.writer.failed w.result w.ensures.ok w.ensures.part w.ensures.fault w.ensures.memory)

pub returns-else-not-failed-clause-told : goal.returns-else-not-failed-clause-told
returns-else-not-failed-clause-told g c =
    let contents = g.W.Write.contents in
    let before = λ (b : Bool). record (text_given contents [] c.args.writer.now) { failed = b } in
    let failed : c.args.writer.now.failed ≡ true = search rules in
    subst (λ (b : Bool). GivesBytes (before b) c.args.bytes.now (before b)) (sym failed) (tells_unwritten c.args.bytes.now (contents c.args.writer.now.inner))
